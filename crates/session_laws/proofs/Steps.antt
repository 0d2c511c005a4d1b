-- What an entry does: each test of the machine turned into a fact.
use Rattle.std.proofs.Common.{◌≡◌, ℕ, zero, suc, ◌+◌, Bool, true, false, not, ◌||◌, List, [], ◌∷◌, ◌++◌, Option, Some, None, nat_le, is_some, refl, sym, ◌∙◌, ap, subst, if◌then◌else◌, append_assoc, slice_get}
use Rattle.std.proofs.lemmas.List.{append-nil}
use Rattle.bosh_types.specs.declared.condition.Condition.TheVariants.{ItemNotFound}
use Rattle.bosh_types.specs.declared.ending.Closing.{Closing}
use Rattle.bosh_types.specs.declared.ending.Ending.TheVariants as endings
use Rattle.bosh_types.specs.declared.inward.Inward.{Inward}
use Rattle.bosh_types.specs.declared.kept.KeptAnswer.{KeptAnswer}
use Rattle.body_writer.specs.Answer.{answer_text}
use Rattle.session_attrs.specs.declared.request.Request.{Request}
use Rattle.session_core.specs.declared.copy.RequestCopy.{RequestCopy}
use Rattle.session_core.specs.declared.place.Place.TheVariants as places
use Rattle.session_core.specs.declared.replies.Arrived.{Arrived}
use Rattle.session_core.specs.declared.replies.Arrived.TheVariants as arrivals
use Rattle.session_core.specs.declared.replies.Collected.{Collected}
use Rattle.session_core.specs.declared.replies.Collected.TheVariants as collections
use Rattle.session_core.specs.declared.replies.Ticked.{Ticked}
use Rattle.session_core.specs.Answers.{settled}
use Rattle.session_core.specs.Copy.{id_of}
use Rattle.session_core.specs.Endings.{terminal}
use Rattle.session_core.specs.Journal.{Call, Arrive, Collect, Back, BackClosed, Tick, TakeInward, Entered, Made, Limit, Limited, Entry, IsAllowed, IsMade, MayEnter, none, more, entered_by, collected_entry, after_entry, after_entries}
use Rattle.session_core.specs.Gap.{owes_errors}
use Rattle.session_core.specs.Kept.{kept_of, lowest_kept}
use Rattle.session_core.specs.Machine.{body_cost, stanza_cost, plain_cost, is_full, full_with, with_cost, placed, replied, refused, repeated, reopened, arrived_at, copy_now, arrived_in_time, arrive, use_up, collected_bytes, collected_by, collected_from, collect, bytes_for, back_in_time, back, closed_in_time, back_closed, tick, passed_on, advanced}
use Rattle.session_core.specs.State.{PlainSession, Issued, TicketState, Waits, Replaced, Struck, UsedUp, last_of, answered_of, inward, is_over}
use Rattle.session_core.specs.Time.{time_applied, is_due, at_moment, is_silent}
use Rattle.session_core.specs.Answers.{has_reason}
use Rattle.session_core.specs.Window.{place_of, is_open, is_above}
use Rattle.session_laws.proofs.Tests.{split, if_false, both_true, not_true}

-- An arriving copy, once time was applied: what it finds, and what the state and the reply are then.
pub record ArrivalBy (t : PlainSession) (copy : RequestCopy) (Q : PlainSession × Arrived → Type 0) : Type 0 where
  pub over : is_over t ≡ true → Q (t, arrivals.Answer (answer_text (terminal (Some ItemNotFound))))
  pub again : (answer : KeptAnswer) → is_over t ≡ false → nat_le (id_of copy) (answered_of t) ≡ true → kept_of t (id_of copy) ≡ Some answer
      → Q (t, arrivals.Answer answer.bytes)
  pub stale : is_over t ≡ false → nat_le (id_of copy) (answered_of t) ≡ true → kept_of t (id_of copy) ≡ None
      → Q (refused ItemNotFound (endings.Stale (id_of copy) (lowest_kept t)) t)
  pub repeats : is_over t ≡ false → nat_le (id_of copy) (answered_of t) ≡ false → is_open t (id_of copy) ≡ true → Q (reopened t (id_of copy))
  pub above : is_over t ≡ false → nat_le (id_of copy) (answered_of t) ≡ false → is_open t (id_of copy) ≡ false → is_above t copy ≡ true
      → Q (refused ItemNotFound (endings.Above (id_of copy) (last_of t) t.terms.requests) t)
  pub fresh : is_over t ≡ false → nat_le (id_of copy) (answered_of t) ≡ false → is_open t (id_of copy) ≡ false → is_above t copy ≡ false
      → Q (replied (settled (advanced (placed t copy))) (id_of copy))

module _ (t : PlainSession) (copy : RequestCopy) (Q : PlainSession × Arrived → Type 0) (by_cases : ArrivalBy t copy Q) where
  repeated-by : is_over t ≡ false → nat_le (id_of copy) (answered_of t) ≡ true → (o : Option KeptAnswer) → kept_of t (id_of copy) ≡ o → Q (repeated t (id_of copy) o)
  repeated-by on within (Some answer) is = by_cases.again answer on within is
  repeated-by on within None is = by_cases.stale on within is

  placed-by : is_over t ≡ false → Q (arrived_at t copy (place_of t copy))
  placed-by on = split (λ place. Q (arrived_at t copy place)) (nat_le (id_of copy) (answered_of t)) places.Answered _
      (λ within. repeated-by on within (kept_of t (id_of copy)) refl)
      (λ later. split (λ place. Q (arrived_at t copy place)) (is_open t (id_of copy)) places.Open _
      (λ open_now. by_cases.repeats on later open_now)
      (λ not_open. split (λ place. Q (arrived_at t copy place)) (is_above t copy) places.Above places.New
      (λ beyond. by_cases.above on later not_open beyond)
      (λ within. by_cases.fresh on later not_open within)))

pub arrival-by : (t : PlainSession) (request : Request) (body : List ℕ) (Q : PlainSession × Arrived → Type 0) → ArrivalBy t (copy_now t request body) Q → Q (arrived_in_time t request body)
arrival-by t request body Q by_cases = split Q (is_over t) _ _ by_cases.over (placed-by t (copy_now t request body) Q by_cases)

-- What an entry does to the state.
pub record EntryBy (s : PlainSession) (E : Entered → PlainSession → Type 0) : Type 0 where
  pub arrives : (request : Request) (body : List ℕ) (now : ℕ) → IsAllowed (Arrive request body now) → is_over s ≡ false → is_full s (body_cost request body) ≡ false
      → E (Made (Arrive request body now)) (arrived_in_time (with_cost (body_cost request body) (time_applied s now)) request body).0
  pub backs : (stream : ℕ) (stanza : List ℕ) (now : ℕ) → IsAllowed (Back stream stanza now) → is_over s ≡ false → is_full s (stanza_cost stanza) ≡ false
      → E (Made (Back stream stanza now)) (back_in_time (with_cost (stanza_cost stanza) (time_applied s now)) stream stanza).0
  pub closes : (stream : ℕ) (closing : Closing) (now : ℕ) → is_over s ≡ false → is_full s plain_cost ≡ false
      → E (Made (BackClosed stream closing now)) (closed_in_time (with_cost plain_cost (time_applied s now)) stream closing).0
  pub ticks : (now : ℕ) → is_over s ≡ false → is_due s now ≡ true → is_full s plain_cost ≡ false → E (Made (Tick now)) (with_cost plain_cost (time_applied s now))
  pub collects : (index : ℕ) (ticket : Issued) → slice_get s.tickets index ≡ Some ticket → E (Made (Collect (suc index))) (use_up s index ticket)
  pub takes : (item : Inward) → slice_get (inward s) s.passed ≡ Some item → E (Made TakeInward) (record s { passed = s.passed + 1 })
  pub limits : (kind : Limited) (cost now : ℕ) → is_over s ≡ false → is_full s cost ≡ true → E (Limit kind cost now) (full_with cost s)

pub limited-by : (R : Entered → Type 0) (over full : Bool) (made limit entered : Entered) → (over ≡ false → full ≡ false → R made) → (over ≡ false → full ≡ true → R limit)
    → (if over then None else Some (if full then limit else made)) ≡ Some entered → R entered
limited-by R true full made limit entered makes limits is = absurd (cc)
limited-by R false true made limit entered makes limits is =
    let same : limit ≡ entered = cc in
    subst R same (limits refl refl)
limited-by R false false made limit entered makes limits is =
    let same : made ≡ entered = cc in
    subst R same (makes refl refl)

pub due-by : (R : Entered → Type 0) (due full : Bool) (made limit entered : Entered) → (due ≡ true → full ≡ false → R made) → (due ≡ true → full ≡ true → R limit)
    → (if due then Some (if full then limit else made) else None) ≡ Some entered → R entered
due-by R false full made limit entered makes limits is = absurd (cc)
due-by R true true made limit entered makes limits is =
    let same : limit ≡ entered = cc in
    subst R same (limits refl refl)
due-by R true false made limit entered makes limits is =
    let same : made ≡ entered = cc in
    subst R same (makes refl refl)

pub arrive-in_time : (s : PlainSession) (request : Request) (body : List ℕ) (now : ℕ) → is_over s ≡ false → is_full s (body_cost request body) ≡ false
    → arrive s request body now ≡ arrived_in_time (with_cost (body_cost request body) (time_applied s now)) request body
arrive-in_time s request body now on room = if_false (is_over s) _ _ on ∙ if_false (is_full s (body_cost request body)) _ _ room

pub back-in_time : (s : PlainSession) (stream : ℕ) (stanza : List ℕ) (now : ℕ) → is_over s ≡ false → is_full s (stanza_cost stanza) ≡ false
    → back s stream stanza now ≡ back_in_time (with_cost (stanza_cost stanza) (time_applied s now)) stream stanza
back-in_time s stream stanza now on room = if_false (is_over s) _ _ on ∙ if_false (is_full s (stanza_cost stanza)) _ _ room

pub closed-in_time : (s : PlainSession) (stream : ℕ) (closing : Closing) (now : ℕ) → is_over s ≡ false → is_full s plain_cost ≡ false
    → back_closed s stream closing now ≡ closed_in_time (with_cost plain_cost (time_applied s now)) stream closing
closed-in_time s stream closing now on room = if_false (is_over s) _ _ on ∙ if_false (is_full s plain_cost) _ _ room

pub tick-in_time : (s : PlainSession) (now : ℕ) → is_due s now ≡ true → is_full s plain_cost ≡ false → (tick s now).0 ≡ with_cost plain_cost (time_applied s now)
tick-in_time s now due room =
    let turned : not (is_due s now) ≡ false = ap not due in
    ap (λ (r : PlainSession × Ticked). r.0) (if_false (not (is_due s now)) _ _ turned ∙ if_false (is_full s plain_cost) _ _ room)

-- what is due is due in a session that goes on
pub due-goes_on : (s : PlainSession) (now : ℕ) → is_due s now ≡ true → is_over s ≡ false
due-goes_on s now due = not_true (is_over s) (both_true (not (is_over s)) ((has_reason (at_moment s now) || owes_errors (at_moment s now)) || is_silent (at_moment s now)) due).0

module _ (s : PlainSession) (E : Entered → PlainSession → Type 0) (by_cases : EntryBy s E) where
  bytes-by : (index : ℕ) (ticket : Issued) (entered : Entered) → slice_get s.tickets index ≡ Some ticket → (o : Option (List ℕ))
      → collected_entry s (Collect (suc index)) (collected_bytes s index ticket o).1 ≡ Some entered
      → (Made (Collect (suc index)) ≡ entered) × E (Made (Collect (suc index))) (collected_bytes s index ticket o).0
  bytes-by index ticket entered at None is = absurd (cc)
  bytes-by index ticket entered at (Some bytes) is = (cc, by_cases.collects index ticket at)

  ticket-by : (index : ℕ) (ticket : Issued) (entered : Entered) → slice_get s.tickets index ≡ Some ticket → (state : TicketState)
      → collected_entry s (Collect (suc index)) (collected_by s index ticket state).1 ≡ Some entered
      → (Made (Collect (suc index)) ≡ entered) × E (Made (Collect (suc index))) (collected_by s index ticket state).0
  ticket-by index ticket entered at Waits is = bytes-by index ticket entered at (bytes_for s ticket.rid) is
  ticket-by index ticket entered at Replaced is = (cc, by_cases.collects index ticket at)
  ticket-by index ticket entered at Struck is = (cc, by_cases.collects index ticket at)
  ticket-by index ticket entered at UsedUp is = absurd (cc)

  collected-by : (index : ℕ) (entered : Entered) (o : Option Issued) → slice_get s.tickets index ≡ o
      → collected_entry s (Collect (suc index)) (collected_from s index o).1 ≡ Some entered
      → (Made (Collect (suc index)) ≡ entered) × E (Made (Collect (suc index))) (collected_from s index o).0
  collected-by index entered None at is = absurd (cc)
  collected-by index entered (Some ticket) at is = ticket-by index ticket entered at ticket.state is

  collect-by : (number : ℕ) (entered : Entered) → collected_entry s (Collect number) (collect s number).1 ≡ Some entered
      → (Made (Collect number) ≡ entered) × E (Made (Collect number)) (collect s number).0
  collect-by zero entered is = absurd (cc)
  collect-by (suc index) entered is = collected-by index entered (slice_get s.tickets index) refl is

  taken-by : (entered : Entered) (o : Option Inward) → slice_get (inward s) s.passed ≡ o → (if is_some (passed_on s o).1 then Some (Made TakeInward) else None) ≡ Some entered
      → (Made TakeInward ≡ entered) × E (Made TakeInward) (passed_on s o).0
  taken-by entered None at is = absurd (cc)
  taken-by entered (Some item) at is = (cc, by_cases.takes item at)

  call-by : (call : Call) → IsAllowed call → (entered : Entered) → entered_by s call ≡ Some entered → E entered (after_entry s entered)
  call-by (Arrive request body now) allowed entered is =
      limited-by (λ e. E e (after_entry s e)) (is_over s) (is_full s (body_cost request body)) _ _ entered
      (λ on room. subst (λ r. E (Made (Arrive request body now)) r.0) (sym (arrive-in_time s request body now on room)) (by_cases.arrives request body now allowed on room))
      (λ on full. by_cases.limits _ _ _ on full) is
  call-by (Collect ticket) allowed entered is =
      let r = collect-by ticket entered is in
      subst (λ e. E e (after_entry s e)) r.0 r.1
  call-by (Back stream stanza now) allowed entered is =
      limited-by (λ e. E e (after_entry s e)) (is_over s) (is_full s (stanza_cost stanza)) _ _ entered
      (λ on room. subst (λ r. E (Made (Back stream stanza now)) r.0) (sym (back-in_time s stream stanza now on room)) (by_cases.backs stream stanza now allowed on room))
      (λ on full. by_cases.limits _ _ _ on full) is
  call-by (BackClosed stream closing now) allowed entered is =
      limited-by (λ e. E e (after_entry s e)) (is_over s) (is_full s plain_cost) _ _ entered
      (λ on room. subst (λ r. E (Made (BackClosed stream closing now)) r.0) (sym (closed-in_time s stream closing now on room)) (by_cases.closes stream closing now on room))
      (λ on full. by_cases.limits _ _ _ on full) is
  call-by (Tick now) allowed entered is =
      due-by (λ e. E e (after_entry s e)) (is_due s now) (is_full s plain_cost) _ _ entered
      (λ due room. subst (λ u. E (Made (Tick now)) u) (sym (tick-in_time s now due room)) (by_cases.ticks now (due-goes_on s now due) due room))
      (λ due full. by_cases.limits _ _ _ (due-goes_on s now due) full) is
  call-by TakeInward allowed entered is =
      let r = taken-by entered (slice_get (inward s) s.passed) refl is in
      subst (λ e. E e (after_entry s e)) r.0 r.1

  -- what an allowed call enters, or the limit
  pub entry-by : (entered : Entered) → MayEnter s entered → E entered (after_entry s entered)
  entry-by (Made call) may = call-by call may.0 (Made call) may.1
  entry-by (Limit kind cost now) may = by_cases.limits kind cost now may.0 may.1

-- where the entry is that of the call itself, it may be entered
may_make : (s : PlainSession) (call : Call) (entered : Entered) → IsAllowed call → entered_by s call ≡ Some entered → Made call ≡ entered → MayEnter s entered
may_make s call entered allowed is same = subst (MayEnter s) same (allowed, is ∙ ap Some (sym same))

collected_is : (s : PlainSession) (call : Call) (reply : Collected) (entered : Entered) → collected_entry s call reply ≡ Some entered → Made call ≡ entered
collected_is s call collections.NotYet entered is = absurd (cc)
collected_is s call collections.UnknownTicket entered is = absurd (cc)
collected_is s call collections.Superseded entered is = cc
collected_is s call (collections.Answer bytes) entered is = cc

taken_is : (found : Bool) (made entered : Entered) → (if found then Some made else None) ≡ Some entered → made ≡ entered
taken_is true made entered is = cc
taken_is false made entered is = absurd (cc)

-- what an allowed call enters may be entered
pub may_enter : (s : PlainSession) (call : Call) → IsAllowed call → (entered : Entered) → entered_by s call ≡ Some entered → MayEnter s entered
may_enter s (Arrive request body now) allowed entered is =
    limited-by (λ e. e ≡ entered → MayEnter s e) (is_over s) (is_full s (body_cost request body)) _ _ entered
    (λ on room same. (allowed, is ∙ ap Some (sym same))) (λ on full same. (on, full, tt)) is refl
may_enter s (Collect ticket) allowed entered is = may_make s (Collect ticket) entered allowed is (collected_is s (Collect ticket) (collect s ticket).1 entered is)
may_enter s (Back stream stanza now) allowed entered is =
    limited-by (λ e. e ≡ entered → MayEnter s e) (is_over s) (is_full s (stanza_cost stanza)) _ _ entered
    (λ on room same. (allowed, is ∙ ap Some (sym same))) (λ on full same. (on, full, tt)) is refl
may_enter s (BackClosed stream closing now) allowed entered is =
    limited-by (λ e. e ≡ entered → MayEnter s e) (is_over s) (is_full s plain_cost) _ _ entered
    (λ on room same. (allowed, is ∙ ap Some (sym same))) (λ on full same. (on, full, tt)) is refl
may_enter s (Tick now) allowed entered is =
    due-by (λ e. e ≡ entered → MayEnter s e) (is_due s now) (is_full s plain_cost) _ _ entered
    (λ due room same. (allowed, is ∙ ap Some (sym same))) (λ due full same. (due-goes_on s now due, full, due)) is refl
may_enter s TakeInward allowed entered is = may_make s TakeInward entered allowed is (taken_is (is_some (passed_on s (slice_get (inward s) s.passed)).1) (Made TakeInward) entered is)

-- the state after one more entry
pub after-push : (s : PlainSession) (past : List Entry) (entry : Entry) → after_entries s (past ++ entry ∷ []) ≡ after_entry (after_entries s past) entry.entered
after-push s [] entry = refl
after-push s (first ∷ past) entry = after-push (after_entry s first.entered) past entry

-- Along a journal: what each entry keeps holds after all of them.
pub every : (P : List Entry → PlainSession → Type 0)
    → ((past : List Entry) (s : PlainSession) (entry : Entry) → MayEnter s entry.entered → P past s → P (past ++ entry ∷ []) (after_entry s entry.entered))
    → {s : PlainSession} {entries : List Entry} (past : List Entry) → IsMade s entries → P past s → P (past ++ entries) (after_entries s entries)
every P step past (none {s = u}) p = subst (λ es. P es u) (sym (append-nil past)) p
every P step past (more {s = u} {entry} {entries} may rest) p =
    subst (λ es. P es (after_entries (after_entry u entry.entered) entries)) (append_assoc past (entry ∷ []) entries)
    (every P step (past ++ entry ∷ []) rest (step past u entry may p))

-- the same, with the state at each place of a journal from this start
pub along : (start : PlainSession) (P : List Entry → PlainSession → Type 0)
    → ((past : List Entry) (s : PlainSession) (entry : Entry) → MayEnter s entry.entered → s ≡ after_entries start past
    → P past s → P (past ++ entry ∷ []) (after_entry s entry.entered))
    → (entries : List Entry) → IsMade start entries → P [] start → P entries (after_entries start entries)
along start P step entries made p =
    (every (λ past s. (s ≡ after_entries start past) × P past s)
    (λ past s entry may q. (ap (λ u. after_entry u entry.entered) q.0 ∙ sym (after-push start past entry), step past s entry may q.0 q.1))
    [] made (refl, p)).1
