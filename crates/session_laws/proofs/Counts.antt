-- The counted bytes and the inward items that were taken are those of the entries.
use Rattle.std.proofs.Common.{◌≡◌, ℕ, ◌+◌, not, List, [], ◌∷◌, ◌++◌, Option, Some, None, refl, ◌∙◌, ap, arith}
use Rattle.std.specs.List.{sum_by}
use Rattle.std.proofs.lemmas.List.Sums.{sum_by-append}
use Rattle.session_attrs.specs.declared.request.Request.{Request}
use Rattle.session_core.specs.declared.outward.Outward.{Outward}
use Rattle.session_core.specs.declared.outward.Outward.TheVariants.{Stanza, Close}
use Rattle.session_core.specs.declared.replies.Arrived.{Arrived}
use Rattle.session_core.specs.declared.replies.Arrived.TheVariants as arrivals
use Rattle.session_core.specs.declared.replies.Taken.{Taken}
use Rattle.session_core.specs.Answers.{settled}
use Rattle.session_core.specs.Journal.{Entered, Entry, Journal, IsJournal, after_entry, entry_cost, counted, state_of, MayEnter}
use Rattle.session_core.specs.Machine.{opened, advanced, placed, bytes_for, wait_at, copy_now, arrived_in_time, with_cost, body_cost, stanza_cost, plain_cost, takes_items, has_room, with_item}
use Rattle.session_core.specs.Passed.{passes}
use Rattle.session_core.specs.State.{PlainSession}
use Rattle.session_core.specs.Time.{time_applied}
use Rattle.session_laws.proofs.Tests.{split}
use Rattle.session_laws.proofs.Frames.{settled_leaves, time_leaves, advanced_leaves}
use Rattle.session_laws.proofs.Steps.{arrival-by, entry-by, along}

pub sum_by_push : {X : Type 0} (f : X → ℕ) (xs : List X) (x : X) → sum_by f (xs ++ x ∷ []) ≡ sum_by f xs + f x
sum_by_push f xs x = omega (arith, sum_by-append f xs (x ∷ []))

-- the counted bytes and the items that were taken, as they were
abbrev Same : PlainSession → PlainSession → Type 0
Same s t = (t.counted ≡ s.counted) × (t.passed ≡ s.passed)

settled_same : (s : PlainSession) → Same s (settled s)
settled_same s = (ap (λ (u : PlainSession). u.counted) (settled_leaves s), ap (λ (u : PlainSession). u.passed) (settled_leaves s))

replied_same : (s : PlainSession) (rid : ℕ) (o : Option (List ℕ)) → Same s (elim o as (λ x. PlainSession × Arrived) [ Some bytes ↦ (s, arrivals.Answer bytes) | None ↦ wait_at s rid ]).0
replied_same s rid None = (refl, refl)
replied_same s rid (Some bytes) = (refl, refl)

arrived_same : (t : PlainSession) (request : Request) (body : List ℕ) → Same t (arrived_in_time t request body).0
arrived_same t request body = arrival-by t request body (λ r. Same t r.0) (record {
  over = λ over. (refl, refl);
  again = λ answer on within is. (refl, refl);
  stale = λ on within is. (refl, refl);
  repeats = λ on later open_now. (refl, refl);
  above = λ on later new beyond. (refl, refl);
  fresh = λ on later new within.
      let u : PlainSession = advanced (placed t (copy_now t request body)) in
      let a = settled_same u in
      let r = replied_same (settled u) request.rid (bytes_for (settled u) request.rid) in
      (r.0 ∙ a.0 ∙ ap (λ (u : PlainSession). u.counted) (advanced_leaves (placed t (copy_now t request body))), r.1 ∙ a.1 ∙ ap (λ (u : PlainSession). u.passed) (advanced_leaves (placed t (copy_now t request body))));
})

item_same : (s : PlainSession) (item : Outward) → Same s (with_item s item).0
item_same s item = settled_same (record s { given = s.given ++ item ∷ [] })

-- what an entry counts
abbrev Counts : PlainSession → Entered → PlainSession → Type 0
Counts s entered t = (t.counted ≡ s.counted + entry_cost entered) × (t.passed ≡ s.passed + passes entered)

timed : (s : PlainSession) (now cost : ℕ) → ((with_cost cost (time_applied s now)).counted ≡ s.counted + cost) × ((with_cost cost (time_applied s now)).passed ≡ s.passed + 0)
timed s now cost =
    let c = ap (λ (u : PlainSession). u.counted) (time_leaves s now) in
    let p = ap (λ (u : PlainSession). u.passed) (time_leaves s now) in
    (ap (λ n. n + cost) c, omega (arith, p))

entry_counts : (s : PlainSession) (entered : Entered) → MayEnter s entered → Counts s entered (after_entry s entered)
entry_counts s entered may = entry-by s (Counts s) (record {
  arrives = λ request body now allowed on room.
      let t = timed s now (body_cost request body) in
      let a = arrived_same (with_cost (body_cost request body) (time_applied s now)) request body in
      (a.0 ∙ t.0, a.1 ∙ t.1);
  backs = λ stream stanza now allowed on room.
      let t = timed s now (stanza_cost stanza) in
      let u : PlainSession = with_cost (stanza_cost stanza) (time_applied s now) in
      let i = item_same u (Stanza stream stanza) in
      split (λ (r : PlainSession × Taken). (r.0.counted ≡ s.counted + stanza_cost stanza) × (r.0.passed ≡ s.passed + 0)) (not (takes_items u stream)) _ _ (λ none. t)
      (λ takes. split (λ (r : PlainSession × Taken). (r.0.counted ≡ s.counted + stanza_cost stanza) × (r.0.passed ≡ s.passed + 0)) (has_room u stanza) _ _ (λ room. (i.0 ∙ t.0, i.1 ∙ t.1)) (λ none. t));
  closes = λ stream closing now on room.
      let t = timed s now plain_cost in
      let u : PlainSession = with_cost plain_cost (time_applied s now) in
      let i = item_same u (Close stream closing) in
      split (λ (r : PlainSession × Taken). (r.0.counted ≡ s.counted + plain_cost) × (r.0.passed ≡ s.passed + 0)) (takes_items u stream) _ _ (λ takes. (i.0 ∙ t.0, i.1 ∙ t.1)) (λ none. t);
  ticks = λ now on due room. timed s now plain_cost;
  collects = λ index ticket is. (omega arith, omega arith);
  takes = λ item is. (omega arith, refl);
  limits = λ kind cost now on full. (omega arith, omega arith);
}) entered may

pub every_counts : (journal : Journal) → IsJournal journal → ((state_of journal).counted ≡ counted journal) × ((state_of journal).passed ≡ sum_by (λ entry. passes entry.entered) journal.entries)
every_counts journal made = along (opened journal.opening)
    (λ past s. (s.counted ≡ body_cost journal.opening.request journal.opening.body + sum_by (λ (entry : Entry). entry_cost entry.entered) past) × (s.passed ≡ sum_by (λ (entry : Entry). passes entry.entered) past))
    (λ past s entry may same p.
    let c = entry_counts s entry.entered may in
    let more = sum_by_push (λ (entry : Entry). entry_cost entry.entered) past entry in
    let taken = sum_by_push (λ (entry : Entry). passes entry.entered) past entry in
    (omega (arith, c.0, p.0, more), omega (arith, c.1, p.1, taken)))
    journal.entries made.1 (omega arith, refl)
