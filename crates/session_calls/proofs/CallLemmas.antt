-- What a call of a stored session leaves: the journal after that call.
use Rattle.std.proofs.Common.{◌≡◌, ℕ, List, [], ◌∷◌, ◌++◌, Option, Some, None, refl, sym, subst, ◌∙◌, ap}
use Rattle.std.specs.Option.{option_map}
use Rattle.bosh_types.specs.declared.ending.Closing.{Closing}
use Rattle.bosh_types.specs.declared.inward.Inward.{Inward}
use Rattle.parked_gate.specs.Histories.{Appends}
use Rattle.session_attrs.specs.declared.request.Request.{Request}
use Rattle.session_core.specs.Journal as plain
use Rattle.session_core.specs.Journal.{Call, Arrive, Back, BackClosed, Collect, TakeInward, Tick, Reply, ToArrive, ToBack, ToCollect, ToTakeInward, ToTick, Journal, IsAllowed, state_of, reply_of, entered_by, called}
use Rattle.session_core.specs.Machine.{arrive, back, back_closed, collect, take_inward, tick}
use Rattle.session_core.specs.declared.replies.Arrived.{Arrived}
use Rattle.session_core.specs.declared.replies.Collected.{Collected}
use Rattle.session_core.specs.declared.replies.Taken.{Taken}
use Rattle.session_core.specs.declared.replies.Ticked.{Ticked}
use Rattle.session_core.specs.State.{PlainSession}
use Rattle.session_journal.specs.declared.call.Reply.{Reply as Told}
use Rattle.session_journal.specs.declared.call.Reply.TheVariants as tellings
use Rattle.session_journal.specs.declared.entry.Entry.{Entry}
use Rattle.session_journal.specs.Calls.{reply_in}
use Rattle.session_journal.specs.Stored.{Enters, IsJournalOf, Steps}
use Rattle.session_journal.proofs.JournalLemmas.{journal_append, one_entry, one_journal}
use Rattle.session_laws.proofs.OneMore.{one_more}
use Rattle.session_calls.specs.After.{after_call, with_entered}

abbrev pub told_by : plain.Entered → plain.Entry
told_by entered = record { caller = 0; entered = entered }

module _ (log later : List Entry) (journal : Journal) (call : Call) (allowed : IsAllowed call) (is : IsJournalOf log journal) where
  -- with the entry that was made, or without one
  with_made : (made : Option Entry) → Enters made (entered_by (state_of journal) call) → Appends (λ e. e.caller) 0 log made later
      → IsJournalOf later (after_call journal call)
  with_made None nothing same =
      subst (λ l. IsJournalOf l (after_call journal call)) (sym same)
      (subst (λ j. IsJournalOf log j) (sym (ap (with_entered journal) nothing)) is)
  with_made (Some e) (entered, enters, told) (longer, caller) =
      subst (λ l. IsJournalOf l (after_call journal call)) (sym longer)
      (subst (λ j. IsJournalOf (log ++ e ∷ []) j) (sym (ap (with_entered journal) enters)) (record {
        told = journal_append log (e ∷ []) journal (told_by entered ∷ []) is.told (one_entry e (told_by entered)
            (ap (option_map (λ (x : plain.Entered). record { caller = e.caller; entered = x })) told
            ∙ ap (λ n. Some (record { caller = n; entered = entered })) caller));
        made = one_more journal call (told_by entered) is.made allowed enters;
      }))

  pub steps_to : (reply : Reply) → Steps log 0 call reply later → (reply ≡ reply_of journal call) × IsJournalOf later (after_call journal call)
  steps_to reply steps =
      let same : steps.replies.journal ≡ journal = one_journal log (steps.replies).journal journal ((steps.replies).is).told is.told in (
        subst (λ (j : Journal). reply ≡ reply_of j call) same (steps.replies).reply_is,
        with_made steps.made (subst (λ (j : Journal). Enters steps.made (entered_by (state_of j) call)) same (steps.replies).enters) steps.appends,
      )

-- the reply alone
pub replied : {X : Type 0} (reply : X → Reply) (p : PlainSession × X) → (called reply p).1 ≡ reply p.1
replied reply (s, x) = refl

to_arrive : (one other : Arrived) → ToArrive one ≡ ToArrive other → one ≡ other
to_arrive one other is = cc

to_back : (one other : Taken) → ToBack one ≡ ToBack other → one ≡ other
to_back one other is = cc

to_tick : (one other : Ticked) → ToTick one ≡ ToTick other → one ≡ other
to_tick one other is = cc

to_take : (one other : Option Inward) → ToTakeInward one ≡ ToTakeInward other → one ≡ other
to_take one other is = cc

to_collect : (one other : Collected) → ToCollect one ≡ ToCollect other → one ≡ other
to_collect one other is = cc

module _ (log later : List Entry) (journal : Journal) (is : IsJournalOf log journal) where
  pub arrive_to : (request : Request) (body : List ℕ) (now : ℕ) → IsAllowed (Arrive request body now)
      → (told : Told) (reply : Arrived) → told ≡ tellings.Arrive reply → Steps log 0 (Arrive request body now) (reply_in told) later
      → (reply ≡ (arrive (state_of journal) request body now).1) × IsJournalOf later (after_call journal (Arrive request body now))
  arrive_to request body now allowed told reply told_is steps =
      let both = steps_to log later journal (Arrive request body now) allowed is (reply_in told) steps in
      (to_arrive reply _ (sym (ap reply_in told_is) ∙ both.0 ∙ replied ToArrive (arrive (state_of journal) request body now)), both.1)

  pub back_to : (stream : ℕ) (stanza : List ℕ) (now : ℕ) → IsAllowed (Back stream stanza now)
      → (told : Told) (reply : Taken) → reply_in told ≡ ToBack reply → Steps log 0 (Back stream stanza now) (reply_in told) later
      → (reply ≡ (back (state_of journal) stream stanza now).1) × IsJournalOf later (after_call journal (Back stream stanza now))
  back_to stream stanza now allowed told reply told_is steps =
      let both = steps_to log later journal (Back stream stanza now) allowed is (reply_in told) steps in
      (to_back reply _ (sym told_is ∙ both.0 ∙ replied ToBack (back (state_of journal) stream stanza now)), both.1)

  pub closed_to : (stream : ℕ) (closing : Closing) (now : ℕ)
      → (told : Told) (reply : Taken) → reply_in told ≡ ToBack reply → Steps log 0 (BackClosed stream closing now) (reply_in told) later
      → (reply ≡ (back_closed (state_of journal) stream closing now).1) × IsJournalOf later (after_call journal (BackClosed stream closing now))
  closed_to stream closing now told reply told_is steps =
      let both = steps_to log later journal (BackClosed stream closing now) tt is (reply_in told) steps in
      (to_back reply _ (sym told_is ∙ both.0 ∙ replied ToBack (back_closed (state_of journal) stream closing now)), both.1)

  pub tick_to : (now : ℕ) (told : Told) (reply : Ticked) → told ≡ tellings.Tick reply → Steps log 0 (Tick now) (reply_in told) later
      → (reply ≡ (tick (state_of journal) now).1) × IsJournalOf later (after_call journal (Tick now))
  tick_to now told reply told_is steps =
      let both = steps_to log later journal (Tick now) tt is (reply_in told) steps in
      (to_tick reply _ (sym (ap reply_in told_is) ∙ both.0 ∙ replied ToTick (tick (state_of journal) now)), both.1)

  pub take_to : (told : Told) (reply : Option Inward) → told ≡ tellings.TakeInward reply → Steps log 0 TakeInward (reply_in told) later
      → (reply ≡ (take_inward (state_of journal)).1) × IsJournalOf later (after_call journal TakeInward)
  take_to told reply told_is steps =
      let both = steps_to log later journal TakeInward tt is (reply_in told) steps in
      (to_take reply _ (sym (ap reply_in told_is) ∙ both.0 ∙ replied ToTakeInward (take_inward (state_of journal))), both.1)

  pub collect_to : (ticket : ℕ) (reply : Collected) → Steps log 0 (Collect ticket) (ToCollect reply) later
      → (reply ≡ (collect (state_of journal) ticket).1) × IsJournalOf later (after_call journal (Collect ticket))
  collect_to ticket reply steps =
      let both = steps_to log later journal (Collect ticket) tt is (ToCollect reply) steps in
      (to_collect reply _ (both.0 ∙ replied ToCollect (collect (state_of journal) ticket)), both.1)
