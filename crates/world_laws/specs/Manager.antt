-- The manager's end: what comes to its session, and what is then seen of it.
use Rattle.std.specs.Prelude.{ℕ, Bool, true, false, List, [], ◌∷◌, ◌++◌, map, Option, Some, None}
use Rattle.bosh_types.specs.declared.condition.Condition.{Condition}
use Rattle.bosh_types.specs.declared.condition.Condition.TheVariants.{ItemNotFound}
use Rattle.bosh_types.specs.declared.ending.Closing.{Closing}
use Rattle.bosh_types.specs.declared.ending.Ending.{Ending}
use Rattle.body_writer.specs.Answer.{answer_text}
use Rattle.session_attrs.specs.declared.request.Request.{Request}
use Rattle.session_core.specs.declared.replies.Arrived.{Arrived}
use Rattle.session_core.specs.declared.replies.Arrived.TheVariants as arrivals
use Rattle.session_core.specs.declared.replies.Collected.{Collected}
use Rattle.session_core.specs.declared.replies.Collected.TheVariants as collections
use Rattle.session_core.specs.declared.replies.Ticked.{Ticked}
use Rattle.session_core.specs.declared.replies.Ticked.TheVariants as ticks
use Rattle.session_core.specs.Endings.{terminal}
use Rattle.session_core.specs.Journal.{Arrive, Collect, Back, BackClosed, Tick, Journal, state_of}
use Rattle.session_core.specs.Machine.{arrive, collect, created_parts, tick}
use Rattle.session_core.specs.declared.opening.Opening.{Opening}
use Rattle.session_core.specs.State.{PlainSession, is_over}
use Rattle.session_calls.specs.After.{after_call, all_taken, untaken}
use Rattle.world_laws.specs.declared.told.Parked.{Parked}
use Rattle.world_laws.specs.declared.told.Told.{Told}
use Rattle.world_laws.specs.declared.told.Told.TheVariants as tells

-- the journal of the session, and the requests that wait, in the order of their tickets
pub record PlainManager : Type 0 where
  pub journal : Journal
  pub parked : List Parked

abbrev pub session : PlainManager → PlainSession
session m = state_of m.journal

-- what there is for the ticket of a request that waits, what is told of that, and whether it waits on
abbrev pub fate : Journal → Parked → Collected
fate journal parked = (collect (state_of journal) parked.ticket).1

abbrev pub told_of : Parked → Collected → List Told
told_of parked (collections.Answer body) = tells.Answer parked.rid body ∷ []
told_of parked collections.NotYet = []
told_of parked collections.Superseded = tells.Gone parked.rid ∷ []
told_of parked collections.UnknownTicket = []

abbrev pub still : Parked → Collected → List Parked
still parked (collections.Answer body) = []
still parked collections.NotYet = parked ∷ []
still parked collections.Superseded = []
still parked collections.UnknownTicket = []

-- the tickets are collected in their order: what is told, who waits on, and the journal after that
abbrev pub collected_told : Journal → List Parked → List Told
collected_told journal [] = []
collected_told journal (parked ∷ others) =
    told_of parked (fate journal parked) ++ collected_told (after_call journal (Collect parked.ticket)) others

abbrev pub still_parked : Journal → List Parked → List Parked
still_parked journal [] = []
still_parked journal (parked ∷ others) =
    still parked (fate journal parked) ++ still_parked (after_call journal (Collect parked.ticket)) others

abbrev pub all_collected : Journal → List Parked → Journal
all_collected journal [] = journal
all_collected journal (parked ∷ others) = all_collected (after_call journal (Collect parked.ticket)) others

-- what comes to a manager: what is told, and the manager after it
pub record Turn : Type 0 where
  pub told : List Told
  pub after : PlainManager

abbrev pub settled : PlainManager → PlainManager
settled m = record {
  journal = all_collected (all_taken m.journal) m.parked;
  parked = still_parked (all_taken m.journal) m.parked;
}

-- what is told, if it is
abbrev pub told_in : Option Told → List Told
told_in None = []
told_in (Some told) = told ∷ []

-- an ending is told once, with the call that brought it
abbrev pub ending_told : Bool → Option Ending → List Told
ending_told true ending = []
ending_told false None = []
ending_told false (Some ending) = tells.Over ending ∷ []

-- after a call these are told: what was passed on, the answer of the arriving copy, what was collected, and the ending
abbrev pub turned : Bool → PlainManager → List Told → Turn
turned was_over m answer = record {
  told = map tells.Passed (untaken m.journal)
      ++ (answer ++ (collected_told (all_taken m.journal) m.parked ++ ending_told was_over (session (settled m)).ending));
  after = settled m;
}

abbrev pub with_journal : PlainManager → Journal → PlainManager
with_journal m journal = record m { journal = journal }

abbrev pub with_parked : PlainManager → ℕ → ℕ → PlainManager
with_parked m ticket rid = record m { parked = m.parked ++ record { ticket = ticket; rid = rid } ∷ [] }

-- a request with this id is refused with this condition
abbrev pub refusal_to : ℕ → Condition → Told
refusal_to rid condition = tells.Answer rid (answer_text (terminal (Some condition)))

-- after the ending a copy is told that there is no such session
abbrev pub not_found : ℕ → Told
not_found rid = refusal_to rid ItemNotFound

-- the copy of this id was replied this
abbrev pub arrived : Bool → PlainManager → ℕ → Arrived → Turn
arrived was_over m rid (arrivals.Answer body) = turned was_over m (tells.Answer rid body ∷ [])
arrived was_over m rid (arrivals.Parked ticket) = turned was_over (with_parked m ticket rid) []
arrived was_over m rid arrivals.Over = turned was_over m (not_found rid ∷ [])

-- a copy arrives at this moment
abbrev pub arrives : PlainManager → Request → List ℕ → ℕ → Turn
arrives m request body now =
    arrived (is_over (session m)) (with_journal m (after_call m.journal (Arrive request body now))) request.rid (arrive (session m) request body now).1

-- the server gives a stanza on a stream, or closes it
abbrev pub gives : PlainManager → ℕ → List ℕ → ℕ → Turn
gives m stream stanza now = turned (is_over (session m)) (with_journal m (after_call m.journal (Back stream stanza now))) []

abbrev pub shuts : PlainManager → ℕ → Closing → ℕ → Turn
shuts m stream closing now = turned (is_over (session m)) (with_journal m (after_call m.journal (BackClosed stream closing now))) []

-- where nothing is due by time, nothing is told
abbrev pub ticked : PlainManager → PlainManager → Ticked → Turn
ticked m after ticks.Quiet = record { told = []; after = m }
ticked m after ticks.Changed = turned (is_over (session m)) after []

abbrev pub passes : PlainManager → ℕ → Turn
passes m now = ticked m (with_journal m (after_call m.journal (Tick now))) (tick (session m) now).1

-- the creation arrives: it is answered at once
abbrev pub opens : Opening → Turn
opens o =
    turned false (record { journal = record { opening = o; entries = [] }; parked = [] })
    (tells.Answer o.request.rid (answer_text (created_parts o)) ∷ [])
