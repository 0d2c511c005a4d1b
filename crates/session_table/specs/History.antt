-- The history of a directory: which sessions were opened, and which of them are live.
use Rattle.std.specs.Prelude.{ℕ, ◌≤◌, List, length, All, Contains, Option, Some, None}
use Rattle.std.specs.List.{filter_map}
use Rattle.std.specs.Option.{option_map}
use Rattle.parked_gate.specs.Passes.{GateId, gate_of}
use Rattle.session_table.specs.declared.entry.Entry.{Entry}
use Rattle.session_table.specs.declared.entry.Event.{Event}
use Rattle.session_table.specs.declared.entry.Event.TheVariants as events
use Rattle.session_table.specs.Sessions.{OpenedSession, numbered_from, live_among, named, sids}
use Rattle.session_table.specs.Sids.{IsSidOf, highest_number}

-- the gate of a session that was opened
abbrev pub gate_in : Event → Option GateId
gate_in (events.Opened gate) = Some (gate_of gate.value)
gate_in events.Removed = None

-- the name and the gate of the session that an entry tells the opening of
abbrev pub opening_in : Entry → Option (List ℕ × GateId)
opening_in e = option_map (λ gate. (e.sid, gate)) (gate_in e.event)

abbrev pub removed_as : List ℕ → Event → Option (List ℕ)
removed_as sid (events.Opened gate) = None
removed_as sid events.Removed = Some sid

-- the name of the session that an entry tells the removal of
abbrev pub removal_in : Entry → Option (List ℕ)
removal_in e = removed_as e.sid e.event

-- the sessions that were opened, in order, numbered from 1
abbrev pub openings_of : List Entry → List OpenedSession
openings_of log = numbered_from 1 (filter_map opening_in log)

-- the names of those that were removed
abbrev pub removals_of : List Entry → List (List ℕ)
removals_of log = filter_map removal_in log

-- the live sessions: those that were opened and not removed, in the order in which they were opened
abbrev pub live_of : List Entry → List OpenedSession
live_of log = live_among (removals_of log) (openings_of log)

-- the live session of this name
abbrev pub live_at : List Entry → List ℕ → Option OpenedSession
live_at log sid = named sid (live_of log)

-- what is true of each history of a directory: each session has a name of its own number, what was removed had been opened,
-- and no more were opened than there are numbers
pub record IsLegal (log : List Entry) : Type 0 where
  pub named : All (λ session. IsSidOf session.sid session.number) (openings_of log)
  pub opened : All (Contains (sids (openings_of log))) (removals_of log)
  pub few_opened : length (openings_of log) ≤ highest_number
