-- What a call enters, and what arrives with it.
use Rattle.std.proofs.Common.{◌≡◌, ℕ, ◌≤◌, arith, Bool, true, false, List, [], ◌∷◌, Option, Some, None, refl, sym, ap, subst, if◌then◌else◌}
use Rattle.std.specs.Prelude.{⊤, is_some}
use Rattle.std.specs.List.{All}
use Rattle.std.proofs.lemmas.List.Elements.{All-append, All-cons, All-nil}
use Rattle.bosh_types.specs.ById.{at_id}
use Rattle.session_attrs.specs.declared.request.Request.{Request}
use Rattle.session_core.specs.declared.copy.RequestCopy.{RequestCopy}
use Rattle.session_core.specs.declared.replies.Collected.{Collected}
use Rattle.session_core.specs.declared.replies.Collected.TheVariants as collections
use Rattle.session_core.specs.Journal.{Call, Arrive, Collect, Back, BackClosed, Tick, TakeInward, Limited, Arrival, ServerStanza, ServerClosing, Time, Entered, Made, Limit, Entry, Journal, collected_entry, cost_of, entered_by, state_of, unless_over, within_limit}
use Rattle.session_core.specs.Machine.{collect, creation_of, is_full, take_inward}
use Rattle.session_core.specs.Run.{arrival_in, arrivals_of, moment_after}
use Rattle.session_core.specs.State.{PlainSession, is_over}
use Rattle.session_core.specs.Time.{is_due}
use Rattle.session_laws.proofs.Arrivals.{arrivals-push, moment-push, moment_of}
use Rattle.session_calls.specs.After.{after_call, with_entered}
use Rattle.world_laws.specs.Sound.{IsSent}

-- what a call enters is the call, or its limit
module _ (s : PlainSession) (P : Entered → Type 0) (limit : (kind : Limited) (cost now : ℕ) → P (Limit kind cost now)) where
  within : (kind : Limited) (now : ℕ) (call : Call) → P (Made call) → (entered : Entered) → unless_over s (within_limit s kind now call) ≡ Some entered → P entered
  within kind now call made entered is = by (is_over s) (is_full s (cost_of call)) is
    where
      by : (b d : Bool) → (if b then None else Some (if d then Limit kind (cost_of call) now else Made call)) ≡ Some entered → P entered
      by true d is = absurd (cc)
      by false true is =
          let same : Limit kind (cost_of call) now ≡ entered = cc in
          subst P same (limit kind (cost_of call) now)
      by false false is =
          let same : Made call ≡ entered = cc in
          subst P same made

  ticks_by : (now : ℕ) → P (Made (Tick now)) → (entered : Entered) → entered_by s (Tick now) ≡ Some entered → P entered
  ticks_by now made entered is = by (is_due s now) (is_full s (cost_of (Tick now))) is
    where
      by : (b d : Bool) → (if b then Some (if d then Limit Time (cost_of (Tick now)) now else Made (Tick now)) else None) ≡ Some entered → P entered
      by false d is = absurd (cc)
      by true true is =
          let same : Limit Time (cost_of (Tick now)) now ≡ entered = cc in
          subst P same (limit Time (cost_of (Tick now)) now)
      by true false is =
          let same : Made (Tick now) ≡ entered = cc in
          subst P same made

  collects_by : (ticket : ℕ) → P (Made (Collect ticket)) → (entered : Entered) → entered_by s (Collect ticket) ≡ Some entered → P entered
  collects_by ticket made entered is = by (collect s ticket).1 is
    where
      by : (collected : Collected) → collected_entry s (Collect ticket) collected ≡ Some entered → P entered
      by collections.NotYet is = absurd (cc)
      by collections.UnknownTicket is = absurd (cc)
      by collections.Superseded is =
          let same : Made (Collect ticket) ≡ entered = cc in
          subst P same made
      by (collections.Answer bytes) is =
          let same : Made (Collect ticket) ≡ entered = cc in
          subst P same made

  takes_by : P (Made TakeInward) → (entered : Entered) → entered_by s TakeInward ≡ Some entered → P entered
  takes_by made entered is = by (is_some (take_inward s).1) is
    where
      by : (b : Bool) → (if b then Some (Made TakeInward) else None) ≡ Some entered → P entered
      by false is = absurd (cc)
      by true is =
          let same : Made TakeInward ≡ entered = cc in
          subst P same made

  pub entered_is : (call : Call) → P (Made call) → (entered : Entered) → entered_by s call ≡ Some entered → P entered
  entered_is (Arrive request body now) made entered is = within Arrival now (Arrive request body now) made entered is
  entered_is (Collect ticket) made entered is = collects_by ticket made entered is
  entered_is (Back stream stanza now) made entered is = within ServerStanza now (Back stream stanza now) made entered is
  entered_is (BackClosed stream closing now) made entered is = within ServerClosing now (BackClosed stream closing now) made entered is
  entered_is (Tick now) made entered is = ticks_by now made entered is
  entered_is TakeInward made entered is = takes_by made entered is

-- an arrival is entered while the session goes on
pub arrival_enters : (s : PlainSession) (request : Request) (body : List ℕ) (now : ℕ) → is_over s ≡ false → (entered : Entered) × (entered_by s (Arrive request body now) ≡ Some entered)
arrival_enters s request body now on =
    let call : Call = Arrive request body now in
    let entered : Entered = if is_full s (cost_of call) then Limit Arrival (cost_of call) now else Made call in
    (entered, ap (λ b. if b then None else Some entered) on)

-- what the call brings is the body of its id, and it comes by this moment
abbrev pub Brings : List (ℕ × List ℕ) → ℕ → Call → Type 0
Brings sent moment (Arrive request body now) = (at_id sent request.rid ≡ Some body) × (now ≤ moment)
Brings sent moment (Collect ticket) = ⊤
Brings sent moment (Back stream stanza now) = now ≤ moment
Brings sent moment (BackClosed stream closing now) = now ≤ moment
Brings sent moment (Tick now) = now ≤ moment
Brings sent moment TakeInward = ⊤

abbrev pub told_by : Entered → Entry
told_by entered = record { caller = 0; entered = entered }

module _ (sent : List (ℕ × List ℕ)) (latest : ℕ) where
  brought : (moment : ℕ) (call : Call) → Brings sent latest call → All (IsSent sent) (arrival_in moment (Made call))
  brought moment (Arrive request body now) is = All-cons (IsSent sent) _ [] is.0 (All-nil (IsSent sent))
  brought moment (Collect ticket) is = All-nil (IsSent sent)
  brought moment (Back stream stanza now) is = All-nil (IsSent sent)
  brought moment (BackClosed stream closing now) is = All-nil (IsSent sent)
  brought moment (Tick now) is = All-nil (IsSent sent)
  brought moment TakeInward is = All-nil (IsSent sent)

  -- whatever arrived before a call and with it
  pub arrivals_after : (j : Journal) (call : Call) → Brings sent latest call → All (IsSent sent) (arrivals_of j) → All (IsSent sent) (arrivals_of (after_call j call))
  arrivals_after j call brings all = by (entered_by (state_of j) call) refl
    where
      by : (e : Option Entered) → entered_by (state_of j) call ≡ e → All (IsSent sent) (arrivals_of (with_entered j e))
      by None is = all
      by (Some entered) is =
          let m = moment_of j.opening.at j.entries in
          let came : All (IsSent sent) (arrival_in m entered) = entered_is (state_of j) (λ e. All (IsSent sent) (arrival_in m e)) (λ kind cost now. All-nil (IsSent sent)) call (brought m call brings) entered is in
          subst (λ (copies : List RequestCopy). All (IsSent sent) copies) (sym (ap (λ (copies : List RequestCopy). creation_of j.opening ∷ copies) (arrivals-push j.opening.at j.entries (told_by entered))))
          (All-append (IsSent sent) (arrivals_of j) (arrival_in m entered) all came)

  timely : (moment : ℕ) → moment ≤ latest → (call : Call) → Brings sent latest call → moment_after moment (Made call) ≤ latest
  timely moment early (Arrive request body now) is = omega (arith, early, is.1)
  timely moment early (Collect ticket) is = early
  timely moment early (Back stream stanza now) is = omega (arith, early, is)
  timely moment early (BackClosed stream closing now) is = omega (arith, early, is)
  timely moment early (Tick now) is = omega (arith, early, is)
  timely moment early TakeInward is = early

  -- the greatest moment so far
  pub moment_later : (j : Journal) (call : Call) → Brings sent latest call → moment_of j.opening.at j.entries ≤ latest
      → moment_of (after_call j call).opening.at (after_call j call).entries ≤ latest
  moment_later j call brings early = by (entered_by (state_of j) call) refl
    where
      by : (e : Option Entered) → entered_by (state_of j) call ≡ e → moment_of (with_entered j e).opening.at (with_entered j e).entries ≤ latest
      by None is = early
      by (Some entered) is =
          let m = moment_of j.opening.at j.entries in
          let later : moment_after m entered ≤ latest = entered_is (state_of j) (λ e. moment_after m e ≤ latest) (λ kind cost now. early) call (timely m early call brings) entered is in
          subst (λ (n : ℕ). n ≤ latest) (sym (moment-push j.opening.at j.entries (told_by entered))) later
