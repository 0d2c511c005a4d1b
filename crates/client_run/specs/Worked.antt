-- How a worker's tries and its work end.
use Rattle.std.specs.Prelude.{◌≡◌, ℕ, ◌+◌, ◌<◌, ◌≤◌, ◌⊎◌, Bool, true, false, List, ◌++◌, Option, Some, None, Result, Ok, Err}
use Rattle.std.specs.declared.alloc.AllocError.{AllocError}
use Rattle.bosh_client.specs.declared.replies.Next.TheVariants as nexts
use Rattle.bosh_client.specs.Machine.{next_request}
use Rattle.bosh_client.specs.PlainClient.{PlainClient, end_of, next_id}
use Rattle.bosh_types.specs.declared.condition.Condition.{Condition}
use Rattle.bosh_types.specs.Rid.{greatest_rid}
use Rattle.parked_gate.specs.Histories.{StartsWith}
use Rattle.parked_gate.specs.Passes.{Known}
use Rattle.server_ports.specs.Counts.{Counts}
use Rattle.server_ports.specs.Events.{Event}
use Rattle.client_run.specs.declared.carrying.Carried.{Carried}
use Rattle.client_run.specs.declared.carrying.Carried.TheVariants as carried
use Rattle.client_run.specs.declared.carrying.Halt.{Halt}
use Rattle.client_run.specs.declared.carrying.Halt.TheVariants as halts
use Rattle.client_run.specs.declared.carrying.Tried.{Tried}
use Rattle.client_run.specs.declared.carrying.Tried.TheVariants as tried
use Rattle.client_run.specs.declared.entry.Entry.{Entry}
use Rattle.client_run.specs.declared.fault.Fault.{Fault}
use Rattle.client_run.specs.declared.fault.Fault.TheVariants as faults
use Rattle.client_run.specs.declared.line.Line.{Line}
use Rattle.client_run.specs.declared.worked.Worked.{Worked}
use Rattle.client_run.specs.declared.worked.Worked.TheVariants as worked
use Rattle.client_run.specs.History.{After}
use Rattle.client_run.specs.Working.{Hand, IsAt, Moves, Row, Setting, Side, Wire, ids_between, no_hand, no_row, owing, row_failed, row_of, row_passed, row_refused, side_of}

-- a dial that failed is one fault more in a row
abbrev pub row_after : {X : Type 0} → Option X → Row → Row
row_after None row = row_failed row
row_after (Some x) row = row

-- of a link that goes on
abbrev pub IfSettled : {L : Type 0} → Tried L → (Line L → Type 0) → Type 0
IfSettled (tried.Settled line) P = P line
IfSettled (tried.Again line first last) P = P line
IfSettled tried.Broken P = Unit {0}
IfSettled tried.Nothing P = Unit {0}
IfSettled (tried.Refused status) P = Unit {0}
IfSettled (tried.Fault fault) P = Unit {0}

-- what one try came to, from moves up to it: the answer was taken, or asked for ids again, and the link goes on; or there is no link
-- any more
abbrev pub TriesBy : {L : Type 0} → (Line L → Wire) → Setting → Side → Side → Result (Tried L) AllocError → Type 0
TriesBy wire setting start s (Ok (tried.Settled line)) = Moves setting start (record s { wire = Some (wire line); hand = owing s.hand.again; row = no_row })
TriesBy wire setting start s (Ok (tried.Again line first last)) = Moves setting start (record s { wire = Some (wire line); hand = owing (ids_between first last ++ s.hand.again); row = no_row })
TriesBy wire setting start s (Ok tried.Broken) = Moves setting start (record s { wire = None; row = no_row })
TriesBy wire setting start s (Ok tried.Nothing) = Moves setting start (record s { wire = None; row = row_passed s.row })
TriesBy wire setting start s (Ok (tried.Refused status)) = Moves setting start (record s { wire = None; row = row_refused s.row status })
TriesBy wire setting start s (Ok (tried.Fault fault)) = Moves setting start (record s { wire = None; row = row_failed s.row })
TriesBy wire setting start s (Err error) = (row : Row) × Moves setting start (record s { wire = None; row = row })

-- three faults came in a row, or three responses to one request with another status than 200, the last of which is this one
abbrev pub IsHalt : Row → Halt → Type 0
IsHalt row (halts.Fault fault) = row.faults ≡ 3
IsHalt row (halts.Refused status) = (row.refusals ≡ 3) × (row.status ≡ status)

-- what all tries for one request came to: its answer was taken, or asked for ids again, or there was one of these rows
abbrev pub CarriesBy : Setting → Side → Side → Result Carried AllocError → Type 0
CarriesBy setting start s (Ok carried.Taken) = Moves setting start (record s { row = no_row })
CarriesBy setting start s (Ok (carried.Again first last)) = Moves setting start (record s { hand = owing (ids_between first last ++ s.hand.again); row = no_row })
CarriesBy setting start s (Ok (carried.Halted halt)) = (hand : Hand) × (row : Row) × IsHalt row halt × Moves setting start (record s { hand = hand; row = row })
CarriesBy setting start s (Err error) = (hand : Hand) × (row : Row) × Moves setting start (record s { hand = hand; row = row })

-- an error to the request with this id named ids up to it
abbrev pub TriesUpTo : {L : Type 0} → ℕ → Tried L → Type 0
TriesUpTo rid (tried.Settled line) = Unit {0}
TriesUpTo rid (tried.Again line first last) = (first ≤ rid) × (last ≡ rid)
TriesUpTo rid tried.Broken = Unit {0}
TriesUpTo rid tried.Nothing = Unit {0}
TriesUpTo rid (tried.Refused status) = Unit {0}
TriesUpTo rid (tried.Fault fault) = Unit {0}

abbrev pub CarriesUpTo : ℕ → Carried → Type 0
CarriesUpTo rid carried.Taken = Unit {0}
CarriesUpTo rid (carried.Again first last) = (first ≤ rid) × (last ≡ rid)
CarriesUpTo rid (carried.Halted halt) = Unit {0}

-- what came of a request and of all copies that were asked for again: nothing is to be sent any more, or there was one of these rows
abbrev pub ServesBy : Setting → Side → Side → Result (Option Halt) AllocError → Type 0
ServesBy setting start s (Ok None) = (row : Row) × Moves setting start (record s { hand = no_hand; row = row })
ServesBy setting start s (Ok (Some halt)) = (hand : Hand) × (row : Row) × IsHalt row halt × Moves setting start (record s { hand = hand; row = row })
ServesBy setting start s (Err error) = (hand : Hand) × (row : Row) × Moves setting start (record s { hand = hand; row = row })

-- the first link was dialled, or three dials failed in a row
abbrev pub FirstBy : {L : Type 0} → (Line L → Wire) → Setting → Side → Side → Option (Line L) → Type 0
FirstBy wire setting start s None = Moves setting start (record s { row = row_of 3 0 0 })
FirstBy wire setting start s (Some line) = (row : Row) × Moves setting start (record s { wire = Some (wire line); row = row })

-- a fault of the network ended the worker
abbrev pub is_fault : Worked → Bool
is_fault worked.Done = false
is_fault (worked.Ended condition) = false
is_fault worked.DialFault = true
is_fault worked.ReadFault = true
is_fault worked.WriteFault = true
is_fault (worked.Refused status) = false
is_fault worked.Silent = false

-- the client's end did
abbrev pub is_end : Worked → Bool
is_end worked.Done = true
is_end (worked.Ended condition) = true
is_end worked.DialFault = false
is_end worked.ReadFault = false
is_end worked.WriteFault = false
is_end (worked.Refused status) = false
is_end worked.Silent = false

-- and it ended by what it read on a link
abbrev pub has_read : Worked → Bool
has_read worked.Done = true
has_read (worked.Ended condition) = true
has_read worked.DialFault = false
has_read worked.ReadFault = false
has_read worked.WriteFault = false
has_read (worked.Refused status) = true
has_read worked.Silent = false

-- the client ended without a condition, or no request id is left
abbrev pub IsDone : PlainClient → Type 0
IsDone c = (end_of c ≡ Some (record { condition = None })) ⊎ ((end_of c ≡ None) × (greatest_rid < next_id c))

-- at some time since the beginning nothing was due
pub record WasIdle (setting : Setting) (first last : List Entry) : Type 0 where
  pub log : List Entry
  pub since : StartsWith log first
  pub until : StartsWith last log
  pub idle : After log (λ c. (now : ℕ) × IsAt setting.moment now × ((next_request c now).1 ≡ nexts.Nothing))

-- why a worker ended, by what it knew at first and knows at last, and by what came in a row
abbrev pub EndsBy : Setting → List Entry → List Entry → Row → Worked → Type 0
EndsBy setting first last row worked.Done = After last IsDone
EndsBy setting first last row (worked.Ended condition) = After last (λ c. end_of c ≡ Some (record { condition = Some condition }))
EndsBy setting first last row worked.DialFault = row.faults ≡ 3
EndsBy setting first last row worked.ReadFault = row.faults ≡ 3
EndsBy setting first last row worked.WriteFault = row.faults ≡ 3
EndsBy setting first last row (worked.Refused status) = (row.refusals ≡ 3) × (row.status ≡ status)
EndsBy setting first last row worked.Silent = WasIdle setting first last

-- the same, unless there was no memory
abbrev pub EndsOr : Setting → List Entry → List Entry → Row → Result Worked AllocError → Type 0
EndsOr setting first last row (Ok ended) = EndsBy setting first last row ended
EndsOr setting first last row (Err error) = Unit {0}

-- how the end of the client ends a worker
abbrev pub ended_by : Option Condition → Worked
ended_by None = worked.Done
ended_by (Some condition) = worked.Ended condition

-- and a row of faults, or of refusals
abbrev pub failed_by : Fault → Worked
failed_by faults.Dial = worked.DialFault
failed_by faults.Read = worked.ReadFault
failed_by faults.Write = worked.WriteFault

abbrev pub halted_by : Halt → Worked
halted_by (halts.Fault fault) = failed_by fault
halted_by (halts.Refused status) = worked.Refused status

-- a worker made these moves, and ended so
pub record Works (setting : Setting) (start : Side) (known : Known Entry) (events : Option (List Event)) (counts : Counts) (wire : Option Wire) (result : Result Worked AllocError) : Type 0 where
  pub hand : Hand
  pub row : Row
  pub moves : Moves setting start (side_of known events counts wire hand row)
  pub ends : EndsOr setting start.known.seen known.seen row result
