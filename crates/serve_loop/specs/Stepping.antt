-- What a step of a connection does over a link that is asked and never waits.
use Rattle.std.specs.Prelude.{◌≡◌, ℕ, ◌<◌, ◌⊎◌, Bool, true, false, List, ◌++◌, length, take, Option}
use Rattle.std.specs.Io.KnownBytes.{Appends, Keeps}
use Rattle.bosh_http.specs.declared.reading.HttpIn.{HttpIn}
use Rattle.bosh_http.specs.declared.reading.HttpIn.TheVariants as http
use Rattle.bosh_http.specs.Reading.{GivesNothing}
use Rattle.bosh_ports.specs.Faults.{HasRisen}
use Rattle.serve_loop.specs.declared.connection.ConnectionEnd.TheVariants as ends
use Rattle.serve_loop.specs.declared.connection.Stage.{Stage}
use Rattle.serve_loop.specs.declared.connection.Stage.TheVariants as stages
use Rattle.serve_loop.specs.declared.owed.Owed.{Owed}
use Rattle.serve_loop.specs.declared.owed.Owed.TheVariants as owed
use Rattle.serve_loop.specs.declared.polled_connection.Standing.{Standing}
use Rattle.serve_loop.specs.Connections.{IsNext, Outside, Owes, Stands, is_read, message, stage_behind}
use Rattle.serve_loop.specs.Trail.{Setting}

-- the bytes of what is owed before a place were given, and nothing else since it is owed
pub record OwesFrom (site : Setting) (start now : Outside) (what : Owed) (place : ℕ) : Type 0 where
  pub given : Option (List ℕ)
  pub owes : Owes site start (record now { given = given }) what
  pub gave : Appends given now.given (take place (message what))

-- where a connection stands that has given what it owes up to a place
abbrev pub StandsAt : Setting → Outside → Outside → ℕ → Stage → Type 0
StandsAt site start now place stages.Reading = Stands site start now stages.Reading
StandsAt site start now place (stages.Asked body closing) = Stands site start now (stages.Asked body closing)
StandsAt site start now place (stages.Waiting w closing looked) = Stands site start now (stages.Waiting w closing looked)
StandsAt site start now place (stages.Owing what) = OwesFrom site start now what place
StandsAt site start now place (stages.Over end) = Stands site start now (stages.Over end)

-- a step: wherever the connection stood, it stands there now
abbrev pub Steps : Setting → Outside → Outside → Standing → Standing → Type 0
Steps site old new standing standing' = (start : Outside) → StandsAt site start old standing.place standing.stage → StandsAt site start new standing'.place standing'.stage

-- more bytes came behind those that were kept, which gave no request
pub record KeepsMore (kept kept' : List ℕ) : Type 0 where
  pub nothing : GivesNothing kept
  pub piece : List ℕ
  pub some : 0 < length piece
  pub is : kept' ≡ kept ++ piece

-- more of what is owed was given, and some of it is left
abbrev pub GivesOn : Owed → ℕ → Standing → Type 0
GivesOn what place next = (next.stage ≡ stages.Owing what) × (place < next.place) × (next.place < length (message what))

-- where a step leads that did something: a piece of a request came, or a piece of what is owed was given; or it did what one move of a
-- connection does that waits for its link
abbrev pub IsNextAt : List ℕ → List ℕ → ℕ → Stage → Standing → Type 0
IsNextAt kept kept' place stages.Reading next = IsNext stages.Reading next.stage ⊎ ((next.stage ≡ stages.Reading) × KeepsMore kept kept')
IsNextAt kept kept' place (stages.Asked body closing) next = IsNext (stages.Asked body closing) next.stage
IsNextAt kept kept' place (stages.Waiting w closing looked) next = IsNext (stages.Waiting w closing looked) next.stage
IsNextAt kept kept' place (stages.Owing what) next = IsNext (stages.Owing what) next.stage ⊎ GivesOn what place next
IsNextAt kept kept' place (stages.Over end) next = IsNext (stages.Over end) next.stage

-- where a request is read, none has come
abbrev pub WantsMore : List ℕ → Stage → Type 0
WantsMore kept stages.Reading = GivesNothing kept
WantsMore kept (stages.Asked body closing) = Unit {0}
WantsMore kept (stages.Waiting w closing looked) = Unit {0}
WantsMore kept (stages.Owing what) = Unit {0}
WantsMore kept (stages.Over end) = Unit {0}

-- a step from here takes from the link or gives to it; from elsewhere it leaves the link alone
abbrev pub asks_link : Stage → Bool
asks_link stages.Reading = true
asks_link (stages.Asked body closing) = false
asks_link (stages.Waiting w closing looked) = false
asks_link (stages.Owing what) = true
asks_link (stages.Over end) = false

-- what others see is as it was, as far as it is told
pub record StaysSo (old new : Outside) : Type 0 where
  pub stream : Keeps old.stream new.stream
  pub given : Keeps old.given new.given
  pub trail : new.trail ≡ old.trail
  pub purse : new.purse ≡ old.purse
  pub faults : new.faults ≡ old.faults

-- of what was read only a failed take moves the count of faults
abbrev pub CountsRead : ℕ → ℕ → HttpIn → Type 0
CountsRead old new (http.Request body closing) = new ≡ old
CountsRead old new (http.Refused refusal) = new ≡ old
CountsRead old new http.End = new ≡ old
CountsRead old new http.ReadFault = HasRisen old new

-- where a connection stands whose next request is given up
abbrev pub given_up : Stage → Stage
given_up stages.Reading = stages.Owing owed.NoMemory
given_up (stages.Asked body closing) = stages.Asked body closing
given_up (stages.Waiting w closing looked) = stages.Waiting w closing looked
given_up (stages.Owing what) = stages.Owing what
given_up (stages.Over end) = stages.Over end
