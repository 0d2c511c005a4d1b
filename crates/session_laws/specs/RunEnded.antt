-- The run of a session that has ended, XEP-0124 section 14: of which copies it is made, and why it goes no further.
use Rattle.std.specs.Prelude.{◌≡◌, ℕ, ◌+◌, ◌≤◌, true, false, List, [], ◌∷◌, ◌++◌, ◌&&◌, length, nat_lt, take, Option, Some, None, slice_get, if◌then◌else◌}
use Rattle.bosh_types.specs.Limits.{most_streams}
use Rattle.bosh_types.specs.declared.ending.Ending.{Ending}
use Rattle.session_core.specs.declared.copy.RequestCopy.{RequestCopy}
use Rattle.session_core.specs.Copy.{is_add}
use Rattle.session_core.specs.Journal.{Entry, Journal}
use Rattle.session_core.specs.Machine.{creation_of}
use Rattle.session_core.specs.Processed.{Processed, copies_of, ends}
use Rattle.session_core.specs.declared.opening.Opening.{Opening}
use Rattle.session_core.specs.Rules.{asked_with, broken_rule}
use Rattle.session_core.specs.Run.{IsReceived, IsRun, Lacks, Completes, IsLast, placings_of, placings_with, key_after, state_testing}
use Rattle.session_core.specs.State.{is_over, opened_in, running_in}

-- the copy that follows these, which follow the creation, is tested with the entry by which it and copies of all lower ids first stand
-- together; the session still goes on there, this is what the rules make of the copy, and these streams are open
abbrev pub IsTried : Journal → List Processed → RequestCopy → Option Ending → List ℕ → Type 0
IsTried journal lower copy verdict running =
    (before : List Entry) × (entry : Entry) × (after : List Entry) × (journal.entries ≡ before ++ entry ∷ after)
    × Completes journal.opening before entry (length lower) × (is_over (state_testing journal.opening before entry) ≡ false)
    × (broken_rule (asked_with (state_testing journal.opening before entry) (key_after journal.opening.request.newkey (copies_of lower)) lower) copy
    ≡ verdict)
    × (running_in lower (state_testing journal.opening before entry).answered ≡ running)

-- the stream that a copy opens after these: the next one where it is an add and fewer than eight were opened, XEP-0124 section 16
abbrev pub opens_after : List Processed → RequestCopy → Option ℕ
opens_after lower copy = if is_add copy && nat_lt (opened_in lower) most_streams then Some (opened_in lower) else None

-- copies of so many ids after the creation's and of the next one don't stand together after these entries: one lacks
abbrev pub LacksOne : Opening → List Entry → ℕ → Type 0
LacksOne o entries count = (k : ℕ) × (k ≤ count) × Lacks (placings_with o entries) (o.request.rid + 1 + k)

-- each copy after the creation broke no rule and was processed with the streams that were open when it was tested; an add opened the
-- next stream, and only the last may be a terminate that ends the session
pub record BreaksNoRule (journal : Journal) (later : List Processed) : Type 0 where
  pub tried : (k : ℕ) (one : Processed) → slice_get later k ≡ Some one → IsTried journal (take k later) one.copy None one.running
  pub opens : (k : ℕ) (one : Processed) → slice_get later k ≡ Some one → one.opened ≡ opens_after (take k later) one.copy
  pub terminate : (k : ℕ) (one : Processed) → slice_get later k ≡ Some one → ends one ≡ true → k + 1 ≡ length later

-- why the run of a session that has ended goes no further than these copies, which follow the creation
pub data GoesNoFurther (journal : Journal) (later : List Processed) : Type 0 where
  -- the last of them is a terminate that ends the session
  AtTerminate : (before : List Processed) (one : Processed) → later ≡ before ++ one ∷ [] → ends one ≡ true → GoesNoFurther journal later
  -- the copy that follows them broke a rule
  AtBreaker : (copy : RequestCopy) (ending : Ending) (running : List ℕ)
      → IsReceived (placings_of journal) (journal.opening.request.rid + 1 + length later) copy
      → IsTried journal later copy (Some ending) running → GoesNoFurther journal later
  -- copies of theirs and of the id that follows them didn't stand together before the session ended, and at that entry none stood for
  -- the id that follows
  AtEnd : (before : List Entry) (entry : Entry) (after : List Entry) → journal.entries ≡ before ++ entry ∷ after
      → IsLast journal.opening before entry → LacksOne journal.opening before (length later)
      → (is_over (state_testing journal.opening before entry) ≡ false
      → Lacks (placings_with journal.opening (before ++ entry ∷ [])) (journal.opening.request.rid + 1 + length later))
      → GoesNoFurther journal later

-- the run of a session that has ended, from the creation on
pub record IsRunOfEnded (journal : Journal) (later : List Processed) : Type 0 where
  pub each : IsRun journal.opening.request.rid (placings_of journal) (creation_of journal.opening ∷ copies_of later)
  pub rules : BreaksNoRule journal later
  pub stops : GoesNoFurther journal later
