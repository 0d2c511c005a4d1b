-- What a stored journal is, and what a call does to it.
use Rattle.std.specs.Prelude.{◌≡◌, ℕ, ◌+◌, List, [], ◌∷◌, Option, Some, None}
use Rattle.parked_gate.specs.Histories.{Appends}
use Rattle.session_core.specs.Journal as plain
use Rattle.session_core.specs.Journal.{Journal, IsJournal, state_of, reply_of, entered_by}
use Rattle.session_core.specs.State.{PlainSession, Issued, TicketState, Waits, Replaced, Struck, UsedUp}
use Rattle.session_journal.specs.declared.entry.Entry.{Entry}
use Rattle.session_journal.specs.Entries.{entered_in, journal_in}

-- the entries tell this journal, which calls made
pub record IsJournalOf (log : List Entry) (journal : Journal) : Type 0 where
  pub told : journal_in log ≡ Some journal
  pub made : IsJournal journal

-- the entries tell a journal that calls made
abbrev pub IsLegal : List Entry → Type 0
IsLegal log = (journal : Journal) × IsJournalOf log journal

-- this holds of the plain session after these entries
pub record After (log : List Entry) (P : PlainSession → Type 0) : Type 0 where
  pub journal : Journal
  pub is : IsJournalOf log journal
  pub holds : P (state_of journal)

-- the entry that was made is what the plain machine enters, and none was where it enters nothing
abbrev pub Enters : Option Entry → Option plain.Entered → Type 0
Enters None entered = entered ≡ None
Enters (Some e) entered = (told : plain.Entered) × (entered ≡ Some told) × (entered_in e.call ≡ Some told)

-- after these entries the call was replied as by the plain machine, and made the entry that it makes there, if it makes one
pub record Replies (log : List Entry) (call : plain.Call) (reply : plain.Reply) (made : Option Entry) : Type 0 where
  pub journal : Journal
  pub is : IsJournalOf log journal
  pub reply_is : reply ≡ reply_of journal call
  pub enters : Enters made (entered_by (state_of journal) call)

-- and that entry was added, with the caller's number
pub record Steps (log : List Entry) (caller : ℕ) (call : plain.Call) (reply : plain.Reply) (later : List Entry) : Type 0 where
  pub made : Option Entry
  pub appends : Appends (λ e. e.caller) caller log made later
  pub replies : Replies log call reply made

-- a ticket is out until it is used up
abbrev pub outs : TicketState → ℕ
outs Waits = 1
outs Replaced = 1
outs Struck = 1
outs UsedUp = 0

-- how many tickets are out
abbrev pub tickets_out : List Issued → ℕ
tickets_out [] = 0
tickets_out (ticket ∷ tickets) = outs ticket.state + tickets_out tickets
