-- One wire: what its link was given and what is owed to it, and what was taken of it and what it gave. A link may tell nothing.
use Rattle.std.specs.Prelude.{◌≡◌, ◌≤◌, ℕ, Bool, List, [], ◌∷◌, ◌++◌, length, Option, None, Some, IfSome}
use Rattle.std.specs.List.{list_any}
use Rattle.std.specs.Io.KnownBytes.{Appends, Consumes, IsAtEnd, Keeps}
use Rattle.bosh_types.specs.declared.inward.Inward.{Inward}
use Rattle.xmpp_stream.specs.declared.incoming.Came.{Came}
use Rattle.xmpp_stream.specs.declared.incoming.Came.TheVariants as came
use Rattle.xmpp_stream.specs.declared.stream_cutter.StreamCutter.{StreamCutter}
use Rattle.xmpp_stream.specs.Cut.{GoesWrong, HasEnded, IsCut}
use Rattle.xmpp_stream.specs.Qualified.{qualified}
use Rattle.xmpp_stream.specs.Stream.{error_mark, is_named}
use Rattle.xmpp_stream.specs.Text.{stream_text}

-- the host of a stream, what is owed to its link, and whether the stream was closed from this end
pub record Outgoing : Type 0 where
  pub to : List ℕ
  pub owed : List ℕ
  pub closed : Bool

-- what the link was given since it told `start`, and after it what is owed, is the text of what was passed
pub record IsWritten (start given : Option (List ℕ)) (outgoing : Outgoing) (passed : List Inward) : Type 0 where
  pub out : List ℕ
  pub appends : Appends start given out
  pub text : out ++ outgoing.owed ≡ stream_text outgoing.to passed outgoing.closed

-- the cutter, and the bytes that were taken last and not fed to it
pub record Incoming : Type 0 where
  pub cutter : StreamCutter
  pub waiting : List ℕ

-- what was taken since the link told `start` gave these elements
pub record IsRead (start left : Option (List ℕ)) (incoming : Incoming) (elements : List (List ℕ)) : Type 0 where
  pub fed : List ℕ
  pub consumes : Consumes start left (fed ++ incoming.waiting)
  pub cut : IsCut incoming.cutter fed elements

-- what was taken, of which this is said
pub record WasTaken (start left : Option (List ℕ)) (P : List ℕ → Type 0) : Type 0 where
  pub taken : List ℕ
  pub consumes : Consumes start left taken
  pub holds : P taken

-- one more element came
pub record ComesNext (text : List ℕ) (start left : Option (List ℕ)) (new : Incoming) (elements : List (List ℕ)) : Type 0 where
  pub element : List ℕ
  pub text_is : text ≡ qualified element
  pub read : IsRead start left new (elements ++ element ∷ [])

-- what came
abbrev pub Comes : Came → Option (List ℕ) → Option (List ℕ) → Incoming → List (List ℕ) → Type 0
Comes (came.Item text) start left new elements = ComesNext text start left new elements
Comes (came.Closed error) start left new elements =
    IsRead start left new elements × WasTaken start left (λ taken. HasEnded taken elements) × (error ≡ list_any (is_named error_mark) elements)
Comes (came.Broken place) start left new elements = IsRead start left new elements × WasTaken start left (λ taken. GoesWrong place taken elements)
Comes came.NotYet start left new elements = IsRead start left new elements
Comes came.Busy start left new elements = IsRead start left new elements
Comes came.End start left new elements = IsRead start left new elements × WasTaken start left (λ taken. IfSome start (λ bytes. bytes ≡ taken))
Comes came.Failed start left new elements = IsRead start left new elements

-- the same of a step, by which a piece may be taken and no more
abbrev pub Steps : Option Came → Option (List ℕ) → Option (List ℕ) → Incoming → List (List ℕ) → Type 0
Steps None start left new elements = IsRead start left new elements
Steps (Some what) start left new elements = Comes what start left new elements

-- no byte was taken, by an answer of the link's
abbrev pub Stays : Came → Option (List ℕ) → Option (List ℕ) → Type 0
Stays (came.Item text) old new = ⊥
Stays (came.Closed error) old new = ⊥
Stays (came.Broken place) old new = ⊥
Stays came.NotYet old new = Keeps old new
Stays came.Busy old new = ⊥
Stays came.End old new = Keeps old new × IsAtEnd old
Stays came.Failed old new = Keeps old new

-- so many bytes were taken at least, where the link tells them
pub record TakesAtLeast (count : ℕ) (old new : Option (List ℕ)) : Type 0 where
  pub bytes : List ℕ
  pub many : count ≤ length bytes
  pub consumes : Consumes old new bytes
