-- Which answers are kept: those of the last ids, without those that the client acknowledged, XEP-0124 sections 9.2 and 14.3.
use Rattle.std.specs.Prelude.{◌≡◌, ℕ, ◌+◌, ◌≤◌, true, List, ◌∷◌, ◌++◌, Some, slice_get}
use Rattle.session_core.specs.Journal.{Entry, Journal, state_of}
use Rattle.session_core.specs.Processed.{Processed}
use Rattle.session_core.specs.Run.{Completes, state_testing}
use Rattle.session_core.specs.State.{answered_of, first_of}

-- one of these copies, which follow the creation, has an acknowledgement that reaches the id, and the id had been answered
-- when that copy was tested
abbrev pub AckedIn : Journal → List Processed → ℕ → Type 0
AckedIn journal processed rid =
    (k : ℕ) × (one : Processed) × (ack : ℕ) × (before : List Entry) × (entry : Entry) × (after : List Entry)
    × (slice_get processed k ≡ Some one) × (one.copy.request.ack ≡ Some ack) × (rid ≤ ack)
    × (journal.entries ≡ before ++ entry ∷ after) × Completes journal.opening before entry k
    × (rid ≤ answered_of (state_testing journal.opening before entry))

-- the answers of the last ids, as many as the client may have open and one, without those that it acknowledged
pub record IsKept (journal : Journal) (rid : ℕ) : Type 0 where
  pub first : first_of (state_of journal) ≤ rid
  pub answered : rid ≤ answered_of (state_of journal)
  pub late : answered_of (state_of journal) ≤ rid + (state_of journal).terms.requests
  pub unacknowledged : (state_of journal).reporting.on ≡ true → AckedIn journal (state_of journal).processed rid → ⊥
