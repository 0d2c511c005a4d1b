-- No request is held that has a reason to be answered.
use Rattle.std.proofs.Common.{◌≡◌, ℕ, zero, suc, ◌+◌, ◌≤◌, true, false, not, ◌&&◌, ◌==◌, List, [], ◌∷◌, ◌++◌, Option, Some, None, length, drop, map, slice_set, refl, ◌∙◌, ap, arith}
use Rattle.std.specs.List.{list_any}
use Rattle.std.proofs.lemmas.List.{length_push}
use Rattle.bosh_types.specs.declared.ending.Ending.{Ending}
use Rattle.bosh_types.specs.declared.ending.Ending.TheVariants as endings
use Rattle.session_attrs.specs.declared.request.Request.{Request}
use Rattle.session_core.specs.declared.outward.Front.{Front}
use Rattle.session_core.specs.declared.outward.Front.TheVariants.{OfStanzas, OfClosing}
use Rattle.session_core.specs.declared.outward.Outward.TheVariants.{Stanza, Close}
use Rattle.session_core.specs.declared.replies.Arrived.{Arrived}
use Rattle.session_core.specs.declared.replies.Arrived.TheVariants as arrivals
use Rattle.session_core.specs.declared.replies.Taken.{Taken}
use Rattle.session_core.specs.Answers.{has_reason, has_reason_for, gives_reason, reasons, front_for, with_answer, closed_by, answer_to, answer_oldest, settled_in, settled}
use Rattle.session_core.specs.Copy.{id_of}
use Rattle.session_core.specs.Endings.{ended}
use Rattle.session_core.specs.Gap.{strike, struck}
use Rattle.session_core.specs.Journal.{Entered, Journal, IsJournal, after_entry, state_of, MayEnter}
use Rattle.session_core.specs.Machine.{opened, advanced, placed, bytes_for, wait_at, copy_now, arrived_in_time, with_cost, body_cost, stanza_cost, plain_cost, takes_items, has_room, replace}
use Rattle.session_core.specs.Processed.{Processed}
use Rattle.session_core.specs.State.{PlainSession, Issued, Waits, UsedUp, held, running, is_over}
use Rattle.session_core.specs.Time.{time_applied, is_silent, at_moment, quiet_of}
use Rattle.session_laws.proofs.Moves.{struck-by}
use Rattle.session_laws.proofs.Tests.{split}
use Rattle.session_laws.proofs.Lists.{drop_next}
use Rattle.session_laws.proofs.Steps.{arrival-by, entry-by, along}

over_none : (s : PlainSession) (copies : List Processed) → is_over s ≡ true → has_reason_for s copies ≡ false
over_none s [] over = refl
over_none s (oldest ∷ later) over = ap (λ b. not b && list_any (gives_reason s oldest) reasons) over

-- reasons don't ask for tickets, arrivals or counts
aside_for : (s : PlainSession) (copies : List Processed) (tickets : List Issued) (last_arrival passed counted : ℕ)
    → has_reason_for (record s { tickets = tickets; last_arrival = last_arrival; passed = passed; counted = counted }) copies ≡ has_reason_for s copies
aside_for s [] tickets last_arrival passed counted = refl
aside_for s (oldest ∷ later) tickets last_arrival passed counted = refl

-- nor for what stands beyond the gap
struck_for : (s : PlainSession) (copies : List Processed) (rid : ℕ) → has_reason_for (strike s rid) copies ≡ has_reason_for s copies
struck_for s [] rid = refl
struck_for s (oldest ∷ later) rid = refl

pub record HasNoReason (s : PlainSession) : Type 0 where
  pub is : has_reason s ≡ false

aside_none : (s : PlainSession) (tickets : List Issued) (last_arrival passed counted : ℕ) → HasNoReason s → HasNoReason (record s { tickets = tickets; last_arrival = last_arrival; passed = passed; counted = counted })
aside_none s tickets last_arrival passed counted none = record { is = aside_for s (held s) tickets last_arrival passed counted ∙ none.is }

ended_none : (ending : Ending) (s : PlainSession) → HasNoReason (ended ending s)
ended_none ending s = record { is = over_none (ended ending s) (held s) refl }

none_held : (s : PlainSession) (copies : List Processed) → length copies ≤ 0 → has_reason_for s copies ≡ false
none_held s [] few = refl
none_held s (oldest ∷ later) few = absurd (omega arith)

closed_held : (rid : ℕ) (front : Front) (s : PlainSession) → held (closed_by rid front s) ≡ held s
closed_held rid (OfStanzas items) s = refl
closed_held rid (OfClosing stream closing) s =
    split (λ (t : PlainSession). held t ≡ held s) (length (running s) == 0) (ended (endings.Closed closing rid) s) s (λ last. refl) (λ other. refl)

-- each answer leaves one request less
held_less : (s : PlainSession) (copies : List Processed) (count : ℕ) → held s ≡ copies → length copies ≤ suc count → length (held (answer_oldest s copies)) ≤ count
held_less s [] count is few = omega (arith, ap length is)
held_less s (oldest ∷ later) count is few =
    let next : held (answer_to s oldest) ≡ later =
    closed_held (id_of oldest.copy) (front_for s oldest) (with_answer s oldest (front_for s oldest))
    ∙ ap (λ n. drop n s.processed) (length_push s.answered _ ∙ plus_one (length s.answered)) ∙ drop_next (length s.answered) s.processed oldest later is in
    omega (arith, ap length next)
  where
    plus_one : (n : ℕ) → n + 1 ≡ suc n
    plus_one n = omega arith

settled_in_none : (count : ℕ) (s : PlainSession) → length (held s) ≤ count → HasNoReason (settled_in count s)
settled_in_none zero s few = record { is = none_held s (held s) few }
settled_in_none (suc count) s few = split HasNoReason (has_reason s) (settled_in count (answer_oldest s (held s))) s
    (λ reason. settled_in_none count (answer_oldest s (held s)) (held_less s (held s) count refl few))
    (λ none. record { is = none })

pub settled_none : (s : PlainSession) → HasNoReason (settled s)
settled_none s = settled_in_none (length (held s)) s (omega arith)

pub time_none : (s : PlainSession) (now : ℕ) → HasNoReason (time_applied s now)
time_none s now =
    let u : PlainSession = struck (settled (at_moment s now)) in
    split HasNoReason (not (is_over u) && is_silent u) _ _ (λ silent. ended_none (endings.Silent (quiet_of u) u.now) u)
    (λ other. struck-by HasNoReason (λ t rid on holds is none. record { is = struck_for t (held t) rid ∙ none.is }) (settled (at_moment s now)) (settled_none (at_moment s now)))

timed_none : (s : PlainSession) (now cost : ℕ) → HasNoReason (with_cost cost (time_applied s now))
timed_none s now cost =
    let t : PlainSession = time_applied s now in
    aside_none t t.tickets t.last_arrival t.passed (t.counted + cost) (time_none s now)

replied_none : (s : PlainSession) (rid : ℕ) → HasNoReason s → (o : Option (List ℕ)) → HasNoReason (elim o as (λ x. PlainSession × Arrived) [ Some bytes ↦ (s, arrivals.Answer bytes) | None ↦ wait_at s rid ]).0
replied_none s rid none (Some bytes) = none
replied_none s rid none None = aside_none s (s.tickets ++ record { rid = rid; state = Waits } ∷ []) s.last_arrival s.passed s.counted none

arrived_none : (t : PlainSession) (request : Request) (body : List ℕ) → HasNoReason t → HasNoReason (arrived_in_time t request body).0
arrived_none t request body none = arrival-by t request body (λ r. HasNoReason r.0) (record {
  over = λ over. none;
  again = λ answer on within is. none;
  stale = λ on within is. ended_none _ t;
  repeats = λ on later open_now. aside_none t (map (replace request.rid) t.tickets ++ record { rid = request.rid; state = Waits } ∷ []) t.now t.passed t.counted none;
  above = λ on later new beyond. ended_none _ t;
  fresh = λ on later new within.
      let u : PlainSession = settled (advanced (placed t (copy_now t request body))) in
      replied_none u request.rid (settled_none (advanced (placed t (copy_now t request body)))) (bytes_for u request.rid);
})

entry_none : (s : PlainSession) (entered : Entered) → MayEnter s entered → HasNoReason s → HasNoReason (after_entry s entered)
entry_none s entered may none = entry-by s (λ e u. HasNoReason u) (record {
  arrives = λ request body now allowed on room. arrived_none (with_cost (body_cost request body) (time_applied s now)) request body (timed_none s now (body_cost request body));
  backs = λ stream stanza now allowed on room.
      let t : PlainSession = with_cost (stanza_cost stanza) (time_applied s now) in
      let q = timed_none s now (stanza_cost stanza) in
      split (λ (r : PlainSession × Taken). HasNoReason r.0) (not (takes_items t stream)) _ _ (λ none. q)
      (λ takes. split (λ (r : PlainSession × Taken). HasNoReason r.0) (has_room t stanza) _ _ (λ room. settled_none (record t { given = t.given ++ Stanza stream stanza ∷ [] })) (λ none. q));
  closes = λ stream closing now on room.
      let t : PlainSession = with_cost plain_cost (time_applied s now) in
      let q = timed_none s now plain_cost in
      split (λ (r : PlainSession × Taken). HasNoReason r.0) (takes_items t stream) _ _ (λ takes. settled_none (record t { given = t.given ++ Close stream closing ∷ [] })) (λ none. q);
  ticks = λ now on due room. timed_none s now plain_cost;
  collects = λ index ticket is. aside_none s (slice_set s.tickets index (record ticket { state = UsedUp })) s.last_arrival s.passed s.counted none;
  takes = λ item is. aside_none s s.tickets s.last_arrival (s.passed + 1) s.counted none;
  limits = λ kind cost now on full. ended_none (endings.JournalFull s.counted cost) s;
}) entered may

pub every_settled : (journal : Journal) → IsJournal journal → has_reason (state_of journal) ≡ false
every_settled journal made = (along (opened journal.opening) (λ past s. HasNoReason s) (λ past s entry may same none. entry_none s entry.entered may none) journal.entries made.1 (record { is = refl })).is
