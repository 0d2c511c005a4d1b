-- A journal that calls made longer: what its ids were given, its tickets and what arrived stay.
use Rattle.std.proofs.Common.{◌≡◌, ℕ, zero, suc, ◌≤◌, List, [], ◌∷◌, ◌++◌, Option, Some, None, length, refl, sym, ◌∙◌, ap, subst, append_assoc}
use Rattle.std.specs.Prelude.{All}
use Rattle.bosh_types.specs.declared.ending.Ending.{Ending}
use Rattle.session_core.specs.Journal.{Call, Collect, Entered, Journal, IsAllowed, IsJournal, TakeInward, entered_by, none, state_of, step}
use Rattle.session_core.specs.Machine.{bytes_for}
use Rattle.session_core.specs.Run.{arrivals_of}
use Rattle.session_core.specs.State.{Issued, PlainSession}
use Rattle.session_laws.specs.Growing.{Begins, Grows}
use Rattle.session_laws.proofs.Arrivals.{moment_of}
use Rattle.session_laws.proofs.Grows.{begins_same, grows_all}
use Rattle.world_laws.specs.declared.told.Parked.{Parked}
use Rattle.session_calls.specs.After.{after_call, all_taken, untaken, with_entered, with_taken}
use Rattle.world_laws.specs.Manager.{all_collected}
use Rattle.world_laws.specs.Sound.{IsSent, IsTicketOf}
use Rattle.world_laws.proofs.Below.{Below}
use Rattle.world_laws.proofs.CallLemmas.{Brings, arrivals_after, moment_later, told_by}
use Rattle.world_laws.proofs.StateLemmas.{every_moment}
use Rattle.world_laws.proofs.TicketLemmas.{ticket_stays}

pub record Grown (sent : List (ℕ × List ℕ)) (moment : ℕ) (j k : Journal) : Type 0 where
  pub made : IsJournal k
  pub opening_is : k.opening ≡ j.opening
  pub bytes : (rid : ℕ) (bytes : List ℕ) → bytes_for (state_of j) rid ≡ Some bytes → bytes_for (state_of k) rid ≡ Some bytes
  pub tickets : (number rid : ℕ) → IsTicketOf (state_of j).tickets number rid → IsTicketOf (state_of k).tickets number rid
  pub arrivals : All (IsSent sent) (arrivals_of j) → All (IsSent sent) (arrivals_of k)
  pub early : (state_of j).now ≤ moment → (state_of k).now ≤ moment
  pub ending : (ending : Ending) → (state_of j).ending ≡ Some ending → (state_of k).ending ≡ Some ending
  pub processed : Begins (state_of j).processed (state_of k).processed
  pub answered : Begins (state_of j).answered (state_of k).answered

begins_later : {X : Type 0} (xs ys zs : List X) → Begins xs ys → Begins ys zs → Begins xs zs
begins_later xs ys zs one two = (one.0 ++ two.0, two.1 ∙ ap (λ l. l ++ two.0) one.1 ∙ append_assoc xs one.0 two.0)

pub grown_none : (sent : List (ℕ × List ℕ)) (moment : ℕ) (j : Journal) → IsJournal j → Grown sent moment j j
grown_none sent moment j made =
    record { made = made; opening_is = refl; bytes = λ rid bytes is. is; tickets = λ number rid is. is; arrivals = λ all. all; early = λ is. is; ending = λ ending is. is; processed = begins_same (state_of j).processed; answered = begins_same (state_of j).answered }

pub grown_then : (sent : List (ℕ × List ℕ)) (moment : ℕ) (j k l : Journal) → Grown sent moment j k → Grown sent moment k l → Grown sent moment j l
grown_then sent moment j k l one two = record {
  made = two.made;
  opening_is = two.opening_is ∙ one.opening_is;
  bytes = λ rid bytes is. two.bytes rid bytes (one.bytes rid bytes is);
  tickets = λ number rid is. two.tickets number rid (one.tickets number rid is);
  arrivals = λ all. two.arrivals (one.arrivals all);
  early = λ is. two.early (one.early is);
  ending = λ ending is. two.ending ending (one.ending ending is);
  processed = begins_later (state_of j).processed (state_of k).processed (state_of l).processed one.processed two.processed;
  answered = begins_later (state_of j).answered (state_of k).answered (state_of l).answered one.answered two.answered;
}

module _ (below : Below) where
  -- the state after a call
  pub state_after : (j : Journal) (call : Call) → IsJournal j → state_of (after_call j call) ≡ (step (state_of j) call).0
  state_after j call made = by (entered_by (state_of j) call) refl
    where
      by : (e : Option Entered) → entered_by (state_of j) call ≡ e → state_of (with_entered j e) ≡ (step (state_of j) call).0
      by None is = sym ((below.journals j made).unentered call is)
      by (Some entered) is = below.state_is j (told_by entered) ∙ sym ((below.journals j made).entered call entered is)

  module _ (sent : List (ℕ × List ℕ)) (moment : ℕ) where
    pub call_made : (j : Journal) (call : Call) → IsAllowed call → IsJournal j → IsJournal (after_call j call)
    call_made j call allowed made = by (entered_by (state_of j) call) refl
      where
        by : (e : Option Entered) → entered_by (state_of j) call ≡ e → IsJournal (with_entered j e)
        by None is = made
        by (Some entered) is = below.longer j call (told_by entered) made allowed is

    call_bytes : (j : Journal) (call : Call) → IsAllowed call → IsJournal j → (rid : ℕ) (bytes : List ℕ) → bytes_for (state_of j) rid ≡ Some bytes
        → bytes_for (state_of (after_call j call)) rid ≡ Some bytes
    call_bytes j call allowed made rid bytes given = by (entered_by (state_of j) call) refl
      where
        by : (e : Option Entered) → entered_by (state_of j) call ≡ e → bytes_for (state_of (with_entered j e)) rid ≡ Some bytes
        by None is = given
        by (Some entered) is = (below.journals j made).same_bytes (told_by entered ∷ []) (below.longer j call (told_by entered) made allowed is) rid bytes given

    call_keeps : (j : Journal) (call : Call) → IsAllowed call → IsJournal j → Grows (state_of j) (state_of (after_call j call))
    call_keeps j call allowed made = by (entered_by (state_of j) call) refl
      where
        by : (e : Option Entered) → entered_by (state_of j) call ≡ e → Grows (state_of j) (state_of (with_entered j e))
        by None is = grows_all (state_of j) [] none
        by (Some entered) is = (below.journals j made).grows (told_by entered ∷ []) (below.longer j call (told_by entered) made allowed is)

    call_opening : (j : Journal) (e : Option Entered) → (with_entered j e).opening ≡ j.opening
    call_opening j None = refl
    call_opening j (Some entered) = refl

    -- a ticket stays of its id, whatever is struck with the call
    call_tickets : (j : Journal) (call : Call) → IsAllowed call → IsJournal j → (number rid : ℕ) → IsTicketOf (state_of j).tickets number rid → IsTicketOf (step (state_of j) call).0.tickets number rid
    call_tickets j call allowed made number rid ticket = by (entered_by (state_of j) call) refl
      where
        by : (e : Option Entered) → entered_by (state_of j) call ≡ e → IsTicketOf (step (state_of j) call).0.tickets number rid
        by None is = subst (λ (s : PlainSession). IsTicketOf s.tickets number rid) (sym ((below.journals j made).unentered call is)) ticket
        by (Some entered) is =
            let laws = below.journals j made in
            let placed = laws.placed call entered allowed is in
            subst (λ (tickets : List Issued). IsTicketOf tickets number rid) (sym (laws.tickets call entered placed is)) (ticket_stays (state_of j) placed.struck call number rid ticket)

    pub call_grows : (j : Journal) (call : Call) → IsAllowed call → Brings sent moment call → IsJournal j → Grown sent moment j (after_call j call)
    call_grows j call allowed brings made = record {
      made = call_made j call allowed made;
      opening_is = call_opening j (entered_by (state_of j) call);
      bytes = call_bytes j call allowed made;
      tickets = λ number rid is.
          subst (λ (s : PlainSession). IsTicketOf s.tickets number rid) (sym (state_after j call made)) (call_tickets j call allowed made number rid is);
      arrivals = arrivals_after sent moment j call brings;
      early = λ is.
          let before : moment_of j.opening.at j.entries ≤ moment = subst (λ (n : ℕ). n ≤ moment) (every_moment j made) is in
          let later = call_made j call allowed made in
          subst (λ (n : ℕ). n ≤ moment) (sym (every_moment (after_call j call) later)) (moment_later sent moment j call brings before);
      ending = (call_keeps j call allowed made).ending;
      processed = (call_keeps j call allowed made).processed;
      answered = (call_keeps j call allowed made).answered;
    }

    passed_grows : (count : ℕ) (j : Journal) → IsJournal j → Grown sent moment j (with_taken count j)
    passed_grows zero j made = grown_none sent moment j made
    passed_grows (suc count) j made =
        let one = call_grows j TakeInward tt tt made in
        grown_then sent moment j (after_call j TakeInward) _ one (passed_grows count (after_call j TakeInward) one.made)

    pub all_passed_grows : (j : Journal) → IsJournal j → Grown sent moment j (all_taken j)
    all_passed_grows j made = passed_grows (length (untaken j)) j made

    pub collected_grows : (j : Journal) (parked : List Parked) → IsJournal j → Grown sent moment j (all_collected j parked)
    collected_grows j [] made = grown_none sent moment j made
    collected_grows j (p ∷ parked) made =
        let one = call_grows j (Collect p.ticket) tt tt made in
        grown_then sent moment j (after_call j (Collect p.ticket)) _ one (collected_grows (after_call j (Collect p.ticket)) parked one.made)
