-- A journal with one more entry.
use Rattle.std.proofs.Common.{◌≡◌, List, [], ◌∷◌, ◌++◌, Some}
use Rattle.session_core.specs.Journal.{Call, Entry, Journal, IsJournal, IsAllowed, IsMade, MayEnter, none, more, entered_by, after_entry, after_entries, state_of}
use Rattle.session_core.specs.Machine.{opened}
use Rattle.session_core.specs.State.{PlainSession}
use Rattle.session_laws.specs.Growing.{with_later}
use Rattle.session_laws.proofs.Grows.{made_first, made_later}
use Rattle.session_laws.proofs.Steps.{after-push, may_enter}

pub made_push : {s : PlainSession} {past : List Entry} (entry : Entry) → IsMade s past → MayEnter (after_entries s past) entry.entered → IsMade s (past ++ entry ∷ [])
made_push entry none may = more may none
made_push entry (more first rest) may = more first (made_push entry rest may)

-- what may be entered makes a longer journal
pub one_entry_more : (journal : Journal) (entry : Entry) → IsJournal journal → MayEnter (state_of journal) entry.entered → IsJournal (with_later journal (entry ∷ []))
one_entry_more journal entry made may = (made.0, made_push entry made.1 may)

-- and what a longer journal has more might be entered
pub last_may : (journal : Journal) (entry : Entry) → IsJournal (with_later journal (entry ∷ [])) → MayEnter (state_of journal) entry.entered
last_may journal entry made = made_first (made_later (opened journal.opening) journal.entries (entry ∷ []) made.1)

-- a call that enters makes a longer journal
pub one_more : (journal : Journal) (call : Call) (entry : Entry) → IsJournal journal → IsAllowed call → entered_by (state_of journal) call ≡ Some entry.entered → IsJournal (with_later journal (entry ∷ []))
one_more journal call entry made allowed is = one_entry_more journal entry made (may_enter (state_of journal) call allowed entry.entered is)

-- and its state is that after the entry
pub state_one_more : (journal : Journal) (entry : Entry) → state_of (with_later journal (entry ∷ [])) ≡ after_entry (state_of journal) entry.entered
state_one_more journal entry = after-push (opened journal.opening) journal.entries entry
