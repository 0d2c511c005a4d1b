-- What a poll for the next request gives.
use Rattle.std.specs.Prelude.{◌≡◌, ℕ, ◌<◌, List, ◌++◌, length, Option}
use Rattle.std.specs.Io.KnownBytes.{Consumes, Keeps}
use Rattle.bosh_http.specs.Reading.{Answers, GivesNothing, Reads}
use Rattle.polled_http.specs.declared.polling.HttpPolled.{HttpPolled}
use Rattle.polled_http.specs.declared.polling.HttpPolled.TheVariants.{Came, More, NotYet}

-- one piece was taken, of one byte at least, and stands behind those that had been kept
pub record TakesPiece (left left' : Option (List ℕ)) (kept kept' : List ℕ) : Type 0 where
  pub piece : List ℕ
  pub some : 0 < length piece
  pub consumes : Consumes left left' piece
  pub is : kept' ≡ kept ++ piece

-- the answer by what was left and kept, before and after: a piece is asked for only where the bytes that have come give nothing
abbrev pub PollAnswers : Option (List ℕ) → Option (List ℕ) → List ℕ → List ℕ → HttpPolled → Type 0
PollAnswers left left' kept kept' (Came answer) = Answers left left' kept kept' answer
PollAnswers left left' kept kept' More = GivesNothing kept × TakesPiece left left' kept kept'
PollAnswers left left' kept kept' NotYet = GivesNothing kept × Keeps left left' × (kept' ≡ kept)

-- the answer by the whole rest of the stream, and by what is left of it then
abbrev pub PollReads : Option (List ℕ) → Option (List ℕ) → HttpPolled → Type 0
PollReads stream rest (Came answer) = Reads stream rest answer
PollReads stream rest More = Keeps stream rest
PollReads stream rest NotYet = Keeps stream rest
