-- That what the code stores of a call is what the plain machine enters.
use Rattle.std.proofs.Common.{◌≡◌, ℕ, Bool, true, false, Option, Some, None, is_some, if◌then◌else◌, refl, sym, ◌∙◌, ap, subst, inl, inr}
use Rattle.bosh_types.specs.declared.ending.Ending.{Ending}
use Rattle.bosh_types.specs.declared.ending.Ending.TheVariants.{Terminated, Stale, Above, WrongKey, UnknownStream, PauseTooLong, Overactive, Silent, Closed, JournalFull}
use Rattle.session_core.specs.declared.replies.Collected.{Collected}
use Rattle.session_core.specs.declared.replies.Collected.TheVariants as collections
use Rattle.session_core.specs.Facts.{Fact}
use Rattle.session_core.specs.Journal as plain
use Rattle.session_core.specs.Journal.{Journal, IsJournal, IsAllowed, state_of, step, cost_of, entered_by, after_entry, collected_entry}
use Rattle.session_core.specs.Machine.{is_full, collect}
use Rattle.session_core.specs.Points.{tested_at}
use Rattle.session_core.specs.State.{PlainSession, is_over}
use Rattle.session_core.specs.Tickets.{uses_up}
use Rattle.session_journal.specs.declared.entry.Entered.{Entered}
use Rattle.session_journal.specs.declared.entry.Limited.{Limited}
use Rattle.session_journal.specs.Entries.{limited_in, entered_in}
use Rattle.session_journal.specs.Stored.{Enters}
use Rattle.session_journal.specs.Storing.{cost_at_end, limited_or, stored_as, by_caller}
use Rattle.session_laws.proofs.Calls.{as_entered}
use Rattle.session_laws.proofs.EndsBack.{every_ends}
use Rattle.session_laws.proofs.EndsForth.{ending_fact}
use Rattle.session_laws.proofs.Tests.{if_true, if_false, is_or_not, which}

-- a call that was entered as made didn't end the session by the journal's limit
no_cost : (tested after : PlainSession) (call : plain.Call) (ending : Ending) → Fact tested (plain.Made call) after ending → cost_at_end (Some ending) ≡ None
no_cost tested after call (Terminated rid) fact = refl
no_cost tested after call (Stale rid lowest) fact = refl
no_cost tested after call (Above rid last requests) fact = refl
no_cost tested after call (WrongKey rid) fact = refl
no_cost tested after call (UnknownStream rid) fact = refl
no_cost tested after call (PauseTooLong rid pause maxpause) fact = refl
no_cost tested after call (Overactive rid distance) fact = refl
no_cost tested after call (Silent since now) fact = refl
no_cost tested after call (Closed closing rid) fact = refl
no_cost tested after call (JournalFull counted cost) fact = absurd fact.0

module _ (journal : Journal) (made : IsJournal journal) (call : plain.Call) (allowed : IsAllowed call) (kind : Limited) (now : ℕ) (e : Entered) (caller : ℕ) (tells : entered_in e ≡ Some (plain.Made call)) where
  abbrev limit_or_call : Bool → plain.Entered
  limit_or_call full = if full then plain.Limit (limited_in kind) (cost_of call) now else plain.Made call

  abbrev Decides : Option ℕ → Option plain.Entered → Type 0
  Decides cost entered = Enters (by_caller caller (Some (limited_or cost kind now e))) entered

  after_made : entered_by (state_of journal) call ≡ Some (plain.Made call) → is_over (state_of journal) ≡ false → cost_at_end (step (state_of journal) call).0.ending ≡ None
  after_made is on = elim (which (step (state_of journal) call).0.ending) [
    | inl none ↦ ap cost_at_end none
    | inr some ↦
        let s : PlainSession = state_of journal in
        let there : (after_entry s (plain.Made call)).ending ≡ Some some.0 = ap (λ (t : PlainSession). t.ending) (sym (as_entered s call (plain.Made call) is)) ∙ some.1 in
        ap cost_at_end some.1 ∙ no_cost (tested_at s (plain.Made call)) (after_entry s (plain.Made call)) call some.0
        (ending_fact s (plain.Made call) (allowed, is) on (every_ends journal made) some.0 there)
  ]

  -- of a session that goes on the limit is stored where it was met, and else the call
  pub live_stores : is_over (state_of journal) ≡ false → entered_by (state_of journal) call ≡ Some (limit_or_call (is_full (state_of journal) (cost_of call)))
      → Decides (cost_at_end (step (state_of journal) call).0.ending) (entered_by (state_of journal) call)
  live_stores on is = elim (is_or_not (is_full (state_of journal) (cost_of call))) [
    | inl full ↦
        let s : PlainSession = state_of journal in
        let limit : plain.Entered = plain.Limit (limited_in kind) (cost_of call) now in
        let entered : entered_by s call ≡ Some limit = is ∙ ap (λ b. Some (limit_or_call b)) full in
        let cost : cost_at_end (step s call).0.ending ≡ Some (cost_of call) = ap (λ (t : PlainSession). cost_at_end t.ending) (as_entered s call limit entered) in
        subst (λ c. Decides c (entered_by s call)) (sym cost) (limit, entered, refl)
    | inr room ↦
        let s : PlainSession = state_of journal in
        let entered : entered_by s call ≡ Some (plain.Made call) = is ∙ ap (λ b. Some (limit_or_call b)) room in
        subst (λ c. Decides c (entered_by s call)) (sym (after_made entered on)) (plain.Made call, entered, tells)
  ]

  -- and after the ending nothing is
  pub stores : entered_by (state_of journal) call ≡ (if is_over (state_of journal) then None else Some (limit_or_call (is_full (state_of journal) (cost_of call))))
      → Enters (by_caller caller (stored_as (state_of journal).ending (step (state_of journal) call).0.ending kind now e)) (entered_by (state_of journal) call)
  stores is = elim (which (state_of journal).ending) [
    | inl none ↦
        let on : is_over (state_of journal) ≡ false = ap is_some none in
        subst (λ o. Enters (by_caller caller (stored_as o (step (state_of journal) call).0.ending kind now e)) (entered_by (state_of journal) call)) (sym none)
        (live_stores on (is ∙ if_false (is_over (state_of journal)) _ _ on))
    | inr some ↦
        let over : is_over (state_of journal) ≡ true = ap is_some some.1 in
        subst (λ o. Enters (by_caller caller (stored_as o (step (state_of journal) call).0.ending kind now e)) (entered_by (state_of journal) call)) (sym some.1)
        (is ∙ if_true (is_over (state_of journal)) _ _ over)
  ]

-- what is told of a ticket says whether it is entered
told_entered : (s : PlainSession) (call : plain.Call) (told : Collected) → uses_up told ≡ true → collected_entry s call told ≡ Some (plain.Made call)
told_entered s call (collections.Answer bytes) uses = refl
told_entered s call collections.NotYet uses = absurd (cc)
told_entered s call collections.Superseded uses = refl
told_entered s call collections.UnknownTicket uses = absurd (cc)

pub collect_entered : (s : PlainSession) (ticket : ℕ) → uses_up (collect s ticket).1 ≡ true → entered_by s (plain.Collect ticket) ≡ Some (plain.Made (plain.Collect ticket))
collect_entered s ticket uses = told_entered s (plain.Collect ticket) (collect s ticket).1 uses
