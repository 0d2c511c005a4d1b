-- What everything that was seen of a session keeps, whoever saw it and however many call.
use Rattle.std.specs.Prelude.{◌≡◌, ◌↔◌, ℕ, false, List, [], ◌∷◌, ◌++◌, take, slice_get, Option, Some}
use Rattle.bosh_types.specs.declared.ending.Ending.{Ending}
use Rattle.bosh_types.specs.declared.kept.KeptAnswer.{KeptAnswer}
use Rattle.session_attrs.specs.declared.request.Request.{Request}
use Rattle.session_core.specs.declared.replies.Arrived.TheVariants as arrivals
use Rattle.session_core.specs.Facts.{Fact}
use Rattle.session_core.specs.Journal as plain
use Rattle.session_core.specs.Journal.{Journal, Arrive, TakeInward, ToArrive, ToTakeInward, state_of}
use Rattle.session_core.specs.Kept.{kept_of}
use Rattle.session_core.specs.Machine.{body_cost, bytes_for, is_full}
use Rattle.session_core.specs.Passed.{passed_of}
use Rattle.session_core.specs.Points.{tested_at}
use Rattle.session_core.specs.Run.{IsLongestRun, placings_of, run_of}
use Rattle.session_core.specs.State.{inward, is_over}
use Rattle.session_core.specs.Time.{time_applied}
use Rattle.session_laws.specs.Growing.{Grows}
use Rattle.session_laws.specs.Laws.{KeptLaws}
use Rattle.session_journal.specs.declared.entry.Entry.{Entry}
use Rattle.session_journal.specs.Entries.{entered_in}
use Rattle.session_journal.specs.Stored.{IsJournalOf, Replies}

-- what was seen is this log, which tells this journal
pub record SeenLaws (log : List Entry) (journal : Journal) : Type 0 where
  -- while the session goes on, what goes inward is what the longest unbroken run of the ids that were received carries
  pub longest_run : is_over (state_of journal) ≡ false → IsLongestRun journal.opening.request.rid (placings_of journal) (run_of journal)
  -- what was taken inward are the first items of that, one with each entry that took one, and the next look is told the next item
  pub taken : take (state_of journal).passed (inward (state_of journal)) ≡ passed_of journal
  pub next_taken : (reply : plain.Reply) (made : Option Entry) → Replies log TakeInward reply made
      → reply ≡ ToTakeInward (slice_get (inward (state_of journal)) (state_of journal).passed)
  -- a copy of an id whose answer is kept, once time was applied, is given the same bytes again
  pub kept_again : (request : Request) (body : List ℕ) (now : ℕ) (answer : KeptAnswer) (reply : plain.Reply) (made : Option Entry)
      → is_over (time_applied (state_of journal) now) ≡ false → is_full (state_of journal) (body_cost request body) ≡ false
      → kept_of (time_applied (state_of journal) now) request.rid ≡ Some answer
      → Replies log (Arrive request body now) reply made → reply ≡ ToArrive (arrivals.Answer answer.bytes)
  -- a session that goes on ends with an entry exactly where the fact of that ending holds there
  pub ends_by_rule : (e : Entry) (longer : Journal) (ending : Ending) → IsJournalOf (log ++ e ∷ []) longer → is_over (state_of journal) ≡ false
      → (entered : plain.Entered) × (entered_in e.call ≡ Some entered)
      × (((state_of longer).ending ≡ Some ending) ↔ Fact (tested_at (state_of journal) entered) entered (state_of longer) ending)
  -- who sees more sees that what the session had stays, and that what an id was given it is given ever after
  pub grows : (later : List Entry) (longer : Journal) → IsJournalOf (log ++ later) longer → Grows (state_of journal) (state_of longer)
  pub same_bytes : (later : List Entry) (longer : Journal) → IsJournalOf (log ++ later) longer → (rid : ℕ) (bytes : List ℕ)
      → bytes_for (state_of journal) rid ≡ Some bytes → bytes_for (state_of longer) rid ≡ Some bytes
  -- and all that every journal keeps
  pub laws : KeptLaws journal
