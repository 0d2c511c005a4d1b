-- The run of a journal in the subject's own words (XEP-0124 section 14.2): of which copies it is made. It knows no window, no
-- buffer and no order of processing, but only what came to the places of ids, one after the other.
use Rattle.std.specs.Prelude.{◌≡◌, ◌≢◌, ℕ, ◌+◌, ◌≤◌, true, false, max, List, [], ◌∷◌, ◌++◌, All, length, Option, Some, slice_get}
use Rattle.key_sequence.specs.Current.{current_after}
use Rattle.session_core.specs.declared.copy.RequestCopy.{RequestCopy}
use Rattle.session_core.specs.Copy.{id_of}
use Rattle.session_core.specs.Journal.{Arrive, Collect, Back, BackClosed, Tick, TakeInward, Entered, Made, Limit, Entry, Journal, after_entries, state_of}
use Rattle.session_core.specs.Machine.{opened, creation_of}
use Rattle.session_core.specs.declared.opening.Opening.{Opening}
use Rattle.session_core.specs.Points.{tested_at}
use Rattle.session_core.specs.State.{PlainSession, Placing, Stands, Strikes, run, is_over}

-- the greatest moment once this was entered
abbrev pub moment_after : ℕ → Entered → ℕ
moment_after moment (Made (Arrive request body now)) = max moment now
moment_after moment (Made (Collect ticket)) = moment
moment_after moment (Made (Back stream stanza now)) = max moment now
moment_after moment (Made (BackClosed stream closing now)) = max moment now
moment_after moment (Made (Tick now)) = max moment now
moment_after moment (Made TakeInward) = moment
moment_after moment (Limit kind cost now) = moment

-- what arrived with an entry, at that moment
abbrev pub arrival_in : ℕ → Entered → List RequestCopy
arrival_in moment (Made (Arrive request body now)) = record { request = request; body = body; arrived = max moment now } ∷ []
arrival_in moment (Made (Collect ticket)) = []
arrival_in moment (Made (Back stream stanza now)) = []
arrival_in moment (Made (BackClosed stream closing now)) = []
arrival_in moment (Made (Tick now)) = []
arrival_in moment (Made TakeInward) = []
arrival_in moment (Limit kind cost now) = []

abbrev pub arrivals_from : ℕ → List Entry → List RequestCopy
arrivals_from moment [] = []
arrivals_from moment (entry ∷ entries) =
    arrival_in moment entry.entered ++ arrivals_from (moment_after moment entry.entered) entries

-- the run of a journal's session
abbrev pub run_of : Journal → List RequestCopy
run_of journal = run (state_of journal)

-- everything that arrived, in that order: the creation, and each copy after it
abbrev pub arrivals_with : Opening → List Entry → List RequestCopy
arrivals_with o entries = creation_of o ∷ arrivals_from o.at entries

abbrev pub arrivals_of : Journal → List RequestCopy
arrivals_of journal = arrivals_with journal.opening journal.entries

-- what came to the places of ids, in order: the creation first
abbrev pub placings_with : Opening → List Entry → List Placing
placings_with o entries = Stands (creation_of o) ∷ (after_entries (opened o) entries).placings

abbrev pub placings_of : Journal → List Placing
placings_of journal = placings_with journal.opening journal.entries

abbrev pub id_in : Placing → ℕ
id_in (Stands copy) = id_of copy
id_in (Strikes rid moment) = rid

-- the copy was received with this id: it stood for it from some place on, and nothing came to that id after it, neither another copy nor
-- that it was struck
abbrev pub IsReceived : List Placing → ℕ → RequestCopy → Type 0
IsReceived placings rid copy =
    (id_of copy ≡ rid) × (before : List Placing) × (after : List Placing)
    × (placings ≡ before ++ Stands copy ∷ after) × All (λ placing. id_in placing ≢ rid) after

-- no copy was received with this id
abbrev pub Lacks : List Placing → ℕ → Type 0
Lacks placings rid = (copy : RequestCopy) → IsReceived placings rid copy → ⊥

-- the copies have the ids from the first one on, and each is the one that was received with its id
abbrev pub IsRun : ℕ → List Placing → List RequestCopy → Type 0
IsRun first placings run =
    (k : ℕ) (copy : RequestCopy) → slice_get run k ≡ Some copy → IsReceived placings (first + k) copy

-- the longest unbroken run of the ids that were received: it is the run of a session that goes on
pub record IsLongestRun (first : ℕ) (placings : List Placing) (run : List RequestCopy) : Type 0 where
  pub each : IsRun first placings run
  pub ends : Lacks placings (first + length run)

-- When a copy is tested, and which entry ends a session: by these the run of a session that has ended is told.

-- the key that these copies leave as the current one
abbrev pub key_after : Option (List ℕ) → List RequestCopy → Option (List ℕ)
key_after key [] = key
key_after key (copy ∷ copies) = key_after (current_after key copy.request.key copy.request.newkey) copies

-- with this entry copies of so many ids after the creation's and of the next one first stood together: before it one of them lacked
pub record Completes (o : Opening) (before : List Entry) (entry : Entry) (count : ℕ) : Type 0 where
  pub together : (k : ℕ) → k ≤ count
      → (copy : RequestCopy) × IsReceived (placings_with o (before ++ entry ∷ [])) (o.request.rid + 1 + k) copy
  pub not_yet : (k : ℕ) × (k ≤ count) × Lacks (placings_with o before) (o.request.rid + 1 + k)

-- the state at which an entry's call is tested
abbrev pub state_testing : Opening → List Entry → Entry → PlainSession
state_testing o before entry = tested_at (after_entries (opened o) before) entry.entered

-- the entry that ended the session
pub record IsLast (o : Opening) (before : List Entry) (entry : Entry) : Type 0 where
  pub goes_on : is_over (after_entries (opened o) before) ≡ false
  pub ends : is_over (after_entries (opened o) (before ++ entry ∷ [])) ≡ true
