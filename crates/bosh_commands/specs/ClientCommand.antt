-- What a client tells, and what its status says.
use Rattle.std.specs.Prelude.{◌≡◌, ◌≢◌, ◌⊎◌, ℕ, Bool, true, false, List, [], ◌∷◌, ◌++◌, Option, IfSome, codes, nat_lt, if◌then◌else◌}
use Rattle.std.specs.Fmt.{decimal}
use Rattle.std.specs.Io.KnownBytes.{Appends}
use Rattle.bosh_client.specs.declared.setup.ClientSetup.{ClientSetup}
use Rattle.bosh_client.specs.PlainClient.{PlainClient}
use Rattle.bosh_commands.specs.Why.{refused_line, why_line}
use Rattle.bosh_commands.specs.declared.client_options.ClientOptions.{ClientOptions}
use Rattle.bosh_commands.specs.declared.client_options.First.{First}
use Rattle.bosh_commands.specs.declared.client_options.First.TheVariants as first
use Rattle.bosh_ports.specs.Faults.{HasRisen}
use Rattle.bosh_ports.specs.Sink.{AppendsFront}
use Rattle.bosh_types.specs.Condition.{name_of}
use Rattle.bosh_types.specs.Limits.{most_lines}
use Rattle.bosh_types.specs.declared.condition.Condition.{Condition}
use Rattle.client_run.specs.declared.entry.Entry.{Entry}
use Rattle.client_run.specs.declared.running.ClientRan.{ClientRan}
use Rattle.client_run.specs.declared.running.ClientRan.TheVariants as ran
use Rattle.client_run.specs.Adding.{Adds, IsTalk}
use Rattle.client_run.specs.Handed.{Hands, as_lines}
use Rattle.client_run.specs.History.{After, first_entry}
use Rattle.client_run.specs.Input.{IsFirstBad, WasFull}
use Rattle.client_run.specs.Ran.{EndsWith, IsSpent, WasEmptied}
use Rattle.line_reader.specs.Lines.{lines_of}
use Rattle.parked_gate.specs.Passes.{Known}
use Rattle.server_ports.specs.Counts.{Counts}

-- the line that tells of a bad line of the input: it is one too many, or it is no stanza
abbrev pub bad_kind : ℕ → List ℕ
bad_kind n = if nat_lt most_lines n then codes " count\n" else codes " grammar\n"

abbrev pub bad_line : ℕ → List ℕ
bad_line n = (codes "bad " ++ decimal n) ++ bad_kind n

-- the line that tells the condition with which a client ended
abbrev pub ended_line : Condition → List ℕ
ended_line condition = (codes "ended " ++ name_of condition) ++ codes "\n"

-- the status of how a client ran, where what is told of it could be told
abbrev pub status_of : ClientRan → ℕ
status_of ran.SpawnFault = 8
status_of ran.NetFault = 7
status_of (ran.Refused status) = 13
status_of (ran.Bad n) = 3
status_of ran.ReadFault = 4
status_of ran.WriteFault = 5
status_of ran.Stuck = 14
status_of (ran.Ended condition) = 9
status_of ran.Done = 0

-- something is told of how it ran, behind what was handed out
abbrev pub is_told : ClientRan → Bool
is_told ran.SpawnFault = false
is_told ran.NetFault = false
is_told (ran.Refused status) = false
is_told (ran.Bad n) = true
is_told ran.ReadFault = false
is_told ran.WriteFault = false
is_told ran.Stuck = false
is_told (ran.Ended condition) = true
is_told ran.Done = false

-- the first id is that of the words, where they give one
abbrev pub IsFirst : First → ℕ → Type 0
IsFirst first.Drawn rid = Unit {0}
IsFirst (first.Given given) rid = rid ≡ given

-- the setup of a client by these options: it asks for acknowledgements, and has no keys
pub record IsSetupOf (options : ClientOptions) (setup : ClientSetup) : Type 0 where
  pub first : IsFirst options.first setup.first
  pub to : setup.to ≡ options.to
  pub wait : setup.wait ≡ options.wait
  pub hold : setup.hold ≡ options.hold
  pub ack : setup.ack ≡ true
  pub keys : setup.keys ≡ 0

-- what is known of a client that has just begun, to whoever made it
abbrev pub begun : ClientSetup → Known Entry
begun setup = record { number = 0; seen = first_entry setup ∷ []; mine = first_entry setup ∷ []; learnt = [] }

-- what a sink was given, where it tells that, and how often it failed
pub record Sunk : Type 0 where
  pub given : Option (List ℕ)
  pub faults : ℕ

abbrev pub sunk_of : Option (List ℕ) → ℕ → Sunk
sunk_of given faults = record { given = given; faults = faults }

-- a sink was given these lines and then this text; where it need not be whole, a front of the lines, since it failed, and the text
abbrev pub Writes : Bool → Sunk → Sunk → List ℕ → List ℕ → Type 0
Writes true s t lines text = Appends s.given t.given (lines ++ text)
Writes false s t lines text = Appends s.given t.given (lines ++ text) ⊎ ((front : List ℕ) × (others : List ℕ) × (lines ≡ front ++ others) × Appends s.given t.given (front ++ text) × HasRisen s.faults t.faults)

-- A client with a setup by these options ran until this was known. What was handed out was written, each stanza as a line, then this
-- text, and nothing else
pub record Tells (options : ClientOptions) (whole : Bool) (s t : Sunk) (text : List ℕ) : Type 0 where
  pub setup : ClientSetup
  pub is : IsSetupOf options setup
  pub known : Known Entry
  pub stanzas : List (List ℕ)
  pub hands : Hands (begun setup) known stanzas
  pub writes : Writes whole s t (as_lines stanzas) text

-- a line of the input is the first bad one, and this was told last
pub record HasBad (options : ClientOptions) (input : Option (List ℕ)) (s t : Sunk) : Type 0 where
  pub number : ℕ
  pub bad : IfSome input (λ bytes. IsFirstBad (lines_of bytes) number)
  pub tells : Tells options false s t (bad_line number)

-- It ran to its end: by its history this holds of it. A link was dialled for it, and what was put to it is lines of the input, in order,
-- with a terminate only after all of them. Nothing was left to be handed out; all that was is written, and then this text
pub record Ended (options : ClientOptions) (input : Option (List ℕ)) (old new : Counts) (s t : Sunk) (text : List ℕ) (P : PlainClient → Type 0) : Type 0 where
  pub tells : Tells options true s t text
  pub after : After tells.known.seen P
  pub emptied : WasEmptied tells.known.seen
  pub dialled : HasRisen old.dialled new.dialled
  pub talk : Adds (begun tells.setup) tells.known (IsTalk input)

-- it ended with some condition, which was told
abbrev pub EndedBadly : ClientOptions → Option (List ℕ) → Counts → Counts → Sunk → Sunk → Type 0
EndedBadly options input old new s t = (condition : Condition) × Ended options input old new s t (ended_line condition) (EndsWith condition)

-- it was refused by a status that is not 200, over a link that was dialled, and that was told as an error, as far as it could be
pub record IsRefused (old new : Counts) (given later : Option (List ℕ)) : Type 0 where
  pub status : ℕ
  pub other : status ≢ 200
  pub dialled : HasRisen old.dialled new.dialled
  pub told : AppendsFront given later (refused_line status)

-- a line found the queue full, and no request id is left of a client that goes on; and that was told as an error, as far as it could be
pub record EndedStuck (options : ClientOptions) (input : Option (List ℕ)) (old new : Counts) (s t : Sunk) (given later : Option (List ℕ)) : Type 0 where
  pub ended : Ended options input old new s t [] IsSpent
  pub full : WasFull (first_entry ended.tells.setup ∷ []) ended.tells.known.seen
  pub told : AppendsFront given later (codes "stuck\n")
