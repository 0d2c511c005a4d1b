-- What single steps of the code do.
use Rattle.std.specs.Prelude.{◌≡◌, ℕ, Bool, true, false, List, Option, Some, None}
use Rattle.std.specs.Option.{option_map}
use Rattle.bosh_types.specs.declared.ending.Ending.{Ending}
use Rattle.bosh_types.specs.declared.ending.Ending.TheVariants.{JournalFull}
use Rattle.session_core.specs.declared.replies.Arrived.{Arrived}
use Rattle.session_core.specs.declared.replies.Arrived.TheVariants as arrivals
use Rattle.session_core.specs.declared.replies.Ticked.{Ticked}
use Rattle.session_core.specs.declared.replies.Ticked.TheVariants.{Changed, Quiet}
use Rattle.session_core.specs.declared.session.Session.{Session}
use Rattle.session_core.specs.Journal.{Journal, state_of}
use Rattle.session_core.specs.StandsFor.{StandsFor}
use Rattle.session_journal.specs.declared.entry.Entered.{Entered}
use Rattle.session_journal.specs.declared.entry.Entered.TheVariants.{Limit}
use Rattle.session_journal.specs.declared.entry.Entry.{Entry}
use Rattle.session_journal.specs.declared.entry.Limited.{Limited}
use Rattle.session_journal.specs.Stored.{IsJournalOf, tickets_out}

-- the session stands for the plain session after these entries, with so many tickets out
pub record Stands (session : Session) (log : List Entry) (out : ℕ) : Type 0 where
  pub journal : Journal
  pub is : IsJournalOf log journal
  pub stands : StandsFor session (state_of journal)
  pub out_is : out ≡ tickets_out (state_of journal).tickets

-- the cost of the call that met the limit, where a session ended so
abbrev pub cost_at_end : Option Ending → Option ℕ
cost_at_end (Some (JournalFull counted cost)) = Some cost
cost_at_end _ = None

abbrev pub limited_or : Option ℕ → Limited → ℕ → Entered → Entered
limited_or (Some cost) kind now call = Limit kind cost now
limited_or None kind now call = call

-- what is stored of a call that may meet the limit: by how the session had ended before it, and how it has ended after it
abbrev pub stored_as : Option Ending → Option Ending → Limited → ℕ → Entered → Option Entered
stored_as (Some ending) after kind now call = None
stored_as None after kind now call = Some (limited_or (cost_at_end after) kind now call)

-- the entry of a caller
abbrev pub by_caller : ℕ → Option Entered → Option Entry
by_caller caller entered = option_map (λ call. record { caller = caller; call = call }) entered

-- how many tickets an arrival hands out
abbrev pub handed_out : Arrived → ℕ
handed_out (arrivals.Answer bytes) = 0
handed_out (arrivals.Parked ticket) = 1
handed_out arrivals.Over = 0

-- time found nothing to do
abbrev pub is_quiet : Ticked → Bool
is_quiet Changed = false
is_quiet Quiet = true
