-- What each call makes of a session beside its entries, and what it is replied.
use Rattle.std.proofs.Common.{◌≡◌, ℕ, ◌+◌, ◌-◌, true, false, not, List, Option, Some, None, is_some, if◌then◌else◌, refl, sym, ◌∙◌, ap, ap₂, subst, arith, inl, inr}
use Rattle.std.specs.Option.{option_map}
use Rattle.bosh_types.specs.declared.ending.Closing.{Closing}
use Rattle.bosh_types.specs.declared.ending.Ending.{Ending}
use Rattle.bosh_types.specs.declared.inward.Inward.{Inward}
use Rattle.parked_gate.specs.Histories.{Appends}
use Rattle.session_attrs.specs.declared.request.Request.{Request}
use Rattle.session_core.specs.declared.replies.Arrived.{Arrived}
use Rattle.session_core.specs.declared.replies.Collected.{Collected}
use Rattle.session_core.specs.declared.replies.Taken.{Taken}
use Rattle.session_core.specs.declared.replies.Ticked.{Ticked}
use Rattle.session_core.specs.declared.session.Session.{Session}
use Rattle.session_core.specs.Journal as plain
use Rattle.session_core.specs.Journal.{IsAllowed, state_of, reply_of, step, cost_of, entered_by}
use Rattle.session_core.specs.Machine.{arrive, back, back_closed, collect, is_full, take_inward, tick}
use Rattle.session_core.specs.Placed.{struck_tickets}
use Rattle.session_core.specs.StandsFor.{StandsFor}
use Rattle.session_core.specs.State.{PlainSession, is_over}
use Rattle.session_core.specs.Steps.{Does}
use Rattle.session_core.specs.Tickets.{uses_up}
use Rattle.session_core.specs.Time.{is_due}
use Rattle.session_journal.specs.declared.entry.Entered.{Entered}
use Rattle.session_journal.specs.declared.entry.Entered.TheVariants as stored
use Rattle.session_journal.specs.declared.entry.Entry.{Entry}
use Rattle.session_journal.specs.declared.entry.Limited.{Limited}
use Rattle.session_journal.specs.declared.entry.Limited.TheVariants as limits
use Rattle.session_journal.specs.Entries.{limited_in, entered_in}
use Rattle.session_journal.specs.Stored.{Enters, Steps, tickets_out}
use Rattle.session_journal.specs.Storing.{Stands, by_caller, cost_at_end, handed_out, is_quiet, limited_or, stored_as}
use Rattle.session_journal.proofs.Decisions.{stores, live_stores, collect_entered}
use Rattle.session_journal.proofs.JournalLemmas.{read_gives}
use Rattle.session_journal.proofs.OutLemmas.{arrival_out, collect_out, strikes_out}
use Rattle.session_journal.proofs.Standing.{goes_on, tells}
use Rattle.session_laws.specs.Tickets.{tickets_after}
use Rattle.session_laws.proofs.ReplyLemmas.{tick_quiet}
use Rattle.session_laws.proofs.Tests.{both_true, if_true, is_or_not, not_true, true_false}
use Rattle.session_laws.proofs.TicketSteps.{every_after}

-- what uses a ticket up says that one was out
pub one_out : {session : Session} {log : List Entry} {out : ℕ} (old : Stands session log out) (ticket : ℕ) (reply : Collected) → reply ≡ (collect (state_of old.journal) ticket).1 → uses_up reply ≡ true
    → out ≡ tickets_out (step (state_of old.journal) (plain.Collect ticket)).0.tickets + 1
one_out old ticket reply told uses =
    old.out_is ∙ collect_out (state_of old.journal) ticket (ap uses_up (sym told) ∙ uses)
    ∙ ap (λ tickets. tickets_out tickets + 1) (sym (every_after old.journal (old.is).made (plain.Collect ticket) tt).1)

module _ {session : Session} {log : List Entry} {out : ℕ} (old : Stands session log out) (after : Session) (caller : ℕ) (later : List Entry) where
  -- the session stands for the replay of the later entries, and the call did what it should
  abbrev pub Goes : plain.Call → plain.Reply → ℕ → Type 0
  Goes call reply left = Stands after later left × Steps log caller call reply later

  abbrev Adds : Option Entry → Type 0
  Adds made = Appends (λ e. e.caller) caller log made later

  goes : (call : plain.Call) → IsAllowed call → (reply : plain.Reply) → StandsFor after (step (state_of old.journal) call).0 → reply ≡ reply_of old.journal call
      → (left : ℕ) → left ≡ tickets_out (step (state_of old.journal) call).0.tickets
      → (made : Option Entry) → Enters made (entered_by (state_of old.journal) call) → Adds made → Goes call reply left
  goes call allowed reply stands told left left_is made enters adds = (
    goes_on old call allowed after left caller stands left_is made enters later adds,
    tells old call allowed after left caller reply told made enters later adds,
  )

  -- a call that hands out no ticket and uses none up
  still_out : (call : plain.Call) → IsAllowed call → ((struck : List ℕ) → tickets_out (tickets_after (state_of old.journal) struck call) ≡ tickets_out (state_of old.journal).tickets)
      → out ≡ tickets_out (step (state_of old.journal) call).0.tickets
  still_out call allowed same =
      let after_call = every_after old.journal (old.is).made call allowed in
      old.out_is ∙ sym (same after_call.0) ∙ ap tickets_out (sym after_call.1)

  limited_enters : (call : plain.Call) (allowed : IsAllowed call) (kind : Limited) (now : ℕ) (e : Entered) → entered_in e ≡ Some (plain.Made call)
      → entered_by (state_of old.journal) call ≡ (if is_over (state_of old.journal) then None
      else Some (if is_full (state_of old.journal) (cost_of call) then plain.Limit (limited_in kind) (cost_of call) now else plain.Made call))
      → (before ended : Option Ending) (entered : Option Entered) → before ≡ (state_of old.journal).ending → ended ≡ (step (state_of old.journal) call).0.ending
      → entered ≡ stored_as before ended kind now e → Enters (by_caller caller entered) (entered_by (state_of old.journal) call)
  limited_enters call allowed kind now e told is before ended entered before_is ended_is entered_is =
      subst (λ o. Enters (by_caller caller o) (entered_by (state_of old.journal) call))
      (sym (entered_is ∙ ap₂ (λ b a. stored_as b a kind now e) before_is ended_is))
      (stores old.journal (old.is).made call allowed kind now e caller told is)

  pub arrived : (request : Request) (body : List ℕ) (now : ℕ) → IsAllowed (plain.Arrive request body now)
      → (reply : Arrived) → Does after reply (arrive (state_of old.journal) request body now)
      → (before ended : Option Ending) (entered : Option Entered) (handed : ℕ) → before ≡ (state_of old.journal).ending
      → ended ≡ (arrive (state_of old.journal) request body now).0.ending → entered ≡ stored_as before ended limits.Arrival now (stored.Arrive body now)
      → handed ≡ handed_out reply → Adds (by_caller caller entered) → Goes (plain.Arrive request body now) (plain.ToArrive reply) (out + handed)
  arrived request body now allowed reply does before ended entered handed before_is ended_is entered_is handed_is adds =
      let call : plain.Call = plain.Arrive request body now in
      let s : PlainSession = state_of old.journal in
      let after_call = every_after old.journal (old.is).made call allowed in
      goes call allowed (plain.ToArrive reply) does.after (ap plain.ToArrive does.replies) (out + handed)
      (ap₂ (λ a b. a + b) (old.out_is ∙ sym (strikes_out after_call.0 s.tickets)) (handed_is ∙ ap handed_out does.replies)
      ∙ sym (arrival_out (struck_tickets after_call.0 s.tickets) request.rid (arrive s request body now).1) ∙ sym (ap tickets_out after_call.1))
      (by_caller caller entered)
      (limited_enters call allowed limits.Arrival now (stored.Arrive body now) (ap (option_map (λ r. plain.Made (plain.Arrive r body now))) (read_gives body request allowed.0)) refl
      before ended entered before_is ended_is entered_is)
      adds

  pub given : (stream : ℕ) (stanza : List ℕ) (now : ℕ) → IsAllowed (plain.Back stream stanza now)
      → (reply : Taken) → Does after reply (back (state_of old.journal) stream stanza now)
      → (before ended : Option Ending) (entered : Option Entered) → before ≡ (state_of old.journal).ending
      → ended ≡ (back (state_of old.journal) stream stanza now).0.ending → entered ≡ stored_as before ended limits.ServerStanza now (stored.Back stream stanza now)
      → Adds (by_caller caller entered) → Goes (plain.Back stream stanza now) (plain.ToBack reply) out
  given stream stanza now allowed reply does before ended entered before_is ended_is entered_is adds =
      let call : plain.Call = plain.Back stream stanza now in
      goes call allowed (plain.ToBack reply) does.after (ap plain.ToBack does.replies) out (still_out call allowed (λ struck. strikes_out struck (state_of old.journal).tickets)) (by_caller caller entered)
      (limited_enters call allowed limits.ServerStanza now (stored.Back stream stanza now) refl refl before ended entered before_is ended_is entered_is) adds

  pub closed : (stream : ℕ) (closing : Closing) (now : ℕ)
      → (reply : Taken) → Does after reply (back_closed (state_of old.journal) stream closing now)
      → (before ended : Option Ending) (entered : Option Entered) → before ≡ (state_of old.journal).ending
      → ended ≡ (back_closed (state_of old.journal) stream closing now).0.ending → entered ≡ stored_as before ended limits.ServerClosing now (stored.BackClosed stream closing now)
      → Adds (by_caller caller entered) → Goes (plain.BackClosed stream closing now) (plain.ToBack reply) out
  closed stream closing now reply does before ended entered before_is ended_is entered_is adds =
      let call : plain.Call = plain.BackClosed stream closing now in
      goes call tt (plain.ToBack reply) does.after (ap plain.ToBack does.replies) out (still_out call tt (λ struck. strikes_out struck (state_of old.journal).tickets)) (by_caller caller entered)
      (limited_enters call tt limits.ServerClosing now (stored.BackClosed stream closing now) refl refl before ended entered before_is ended_is entered_is) adds

  pub changed : (now : ℕ) (reply : Ticked) → Does after reply (tick (state_of old.journal) now) → is_quiet reply ≡ false
      → (ended : Option Ending) (entered : Option Entered) → ended ≡ (tick (state_of old.journal) now).0.ending
      → entered ≡ Some (limited_or (cost_at_end ended) limits.Time now (stored.Tick now))
      → Adds (by_caller caller entered) → Goes (plain.Tick now) (plain.ToTick reply) out
  changed now reply does loud ended entered ended_is entered_is adds =
      let call : plain.Call = plain.Tick now in
      let s : PlainSession = state_of old.journal in
      let due : is_due s now ≡ true = elim (is_or_not (is_due s now)) [
        | inl due ↦ due
        | inr none ↦ absurd (true_false (sym (ap is_quiet (does.replies ∙ (tick_quiet s now).1 none)) ∙ loud))
      ] in
      let on : is_over s ≡ false = not_true (is_over s) (both_true (not (is_over s)) _ due).0 in
      let decided = live_stores old.journal (old.is).made call tt limits.Time now (stored.Tick now) caller refl on (if_true (is_due s now) _ _ due) in
      goes call tt (plain.ToTick reply) does.after (ap plain.ToTick does.replies) out (still_out call tt (λ struck. strikes_out struck s.tickets)) (by_caller caller entered)
      (subst (λ o. Enters (by_caller caller o) (entered_by s call)) (sym (entered_is ∙ ap (λ a. Some (limited_or (cost_at_end a) limits.Time now (stored.Tick now))) ended_is)) decided)
      adds

  pub taken : (reply : Option Inward) → reply ≡ (take_inward (state_of old.journal)).1 → StandsFor after (take_inward (state_of old.journal)).0 → is_some reply ≡ true
      → Adds (by_caller caller (Some stored.TakeInward)) → Goes plain.TakeInward (plain.ToTakeInward reply) out
  taken reply told stands some adds =
      let s : PlainSession = state_of old.journal in
      goes plain.TakeInward tt (plain.ToTakeInward reply) stands (ap plain.ToTakeInward told) out (still_out plain.TakeInward tt (λ struck. refl)) (by_caller caller (Some stored.TakeInward))
      (plain.Made plain.TakeInward, if_true (is_some (take_inward s).1) _ _ (ap is_some (sym told) ∙ some), refl) adds

  pub collected : (ticket : ℕ) (reply : Collected) → reply ≡ (collect (state_of old.journal) ticket).1 → StandsFor after (collect (state_of old.journal) ticket).0
      → uses_up reply ≡ true → Adds (by_caller caller (Some (stored.Collect ticket))) → Goes (plain.Collect ticket) (plain.ToCollect reply) (out - 1)
  collected ticket reply told stands uses adds =
      let e = one_out old ticket reply told uses in
      goes (plain.Collect ticket) tt (plain.ToCollect reply) stands (ap plain.ToCollect told) (out - 1) (omega (arith, e)) (by_caller caller (Some (stored.Collect ticket)))
      (plain.Made (plain.Collect ticket), collect_entered (state_of old.journal) ticket (ap uses_up (sym told) ∙ uses), refl) adds
