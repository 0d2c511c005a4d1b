-- The journal after a call of its one holder.
use Rattle.std.specs.Prelude.{ℕ, zero, suc, List, [], ◌∷◌, Option, Some, None, drop, length}
use Rattle.bosh_types.specs.declared.inward.Inward.{Inward}
use Rattle.session_core.specs.Journal.{Call, Entered, Journal, TakeInward, entered_by, state_of}
use Rattle.session_core.specs.State.{inward}
use Rattle.session_journal.specs.declared.entry.Entry.{Entry}
use Rattle.session_journal.specs.Entries.{journal_in}
use Rattle.session_laws.specs.Growing.{with_later}

-- the journal is longer by what a call enters, if it enters something; it has one holder
abbrev pub with_entered : Journal → Option Entered → Journal
with_entered journal None = journal
with_entered journal (Some entered) = with_later journal (record { caller = 0; entered = entered } ∷ [])

abbrev pub after_call : Journal → Call → Journal
after_call journal call = with_entered journal (entered_by (state_of journal) call)

-- what goes inward and wasn't taken yet, and the journal once so many items were taken
abbrev pub untaken : Journal → List Inward
untaken journal = drop (state_of journal).passed (inward (state_of journal))

abbrev pub with_taken : ℕ → Journal → Journal
with_taken zero journal = journal
with_taken (suc count) journal = with_taken count (after_call journal TakeInward)

abbrev pub all_taken : Journal → Journal
all_taken journal = with_taken (length (untaken journal)) journal

-- how many inward items of a stored session weren't taken yet
abbrev pub untaken_in : Option Journal → ℕ
untaken_in None = 0
untaken_in (Some journal) = length (untaken journal)

abbrev pub left_in : List Entry → ℕ
left_in log = untaken_in (journal_in log)
