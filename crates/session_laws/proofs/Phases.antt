-- What each phase of an entry keeps, every entry keeps: time, what is settled, a new copy, and what ends a session from outside.
use Rattle.std.proofs.Common.{◌≡◌, ℕ, ◌+◌, ◌≤◌, false, not, List, [], ◌∷◌, ◌++◌, Option, Some, None, nat_le, refl, map, slice_set}
use Rattle.bosh_types.specs.Rid.{greatest_rid}
use Rattle.bosh_types.specs.declared.ending.Ending.{Ending}
use Rattle.bosh_types.specs.declared.ending.Ending.TheVariants as endings
use Rattle.session_attrs.specs.declared.request.Request.{Request}
use Rattle.session_core.specs.declared.copy.RequestCopy.{RequestCopy}
use Rattle.session_core.specs.declared.outward.Outward.{Outward}
use Rattle.session_core.specs.declared.outward.Outward.TheVariants.{Stanza, Close}
use Rattle.session_core.specs.declared.replies.Arrived.{Arrived}
use Rattle.session_core.specs.declared.replies.Arrived.TheVariants as arrivals
use Rattle.session_core.specs.declared.replies.Taken.{Taken}
use Rattle.session_core.specs.Answers.{settled}
use Rattle.session_core.specs.Copy.{id_of}
use Rattle.session_core.specs.Endings.{ended}
use Rattle.session_core.specs.Journal.{Entered, after_entry, MayEnter}
use Rattle.session_core.specs.Kept.{lowest_kept}
use Rattle.session_core.specs.Machine.{advanced, placed, bytes_for, wait_at, copy_now, arrived_in_time, with_cost, body_cost, stanza_cost, plain_cost, takes_items, has_room, with_item, replace}
use Rattle.session_core.specs.State.{PlainSession, Issued, Waits, UsedUp, last_of, answered_of, is_over}
use Rattle.session_core.specs.Time.{time_applied}
use Rattle.session_core.specs.Window.{is_open, is_above}
use Rattle.session_laws.proofs.Tests.{split}
use Rattle.session_laws.proofs.Read.{read-rid}
use Rattle.session_laws.proofs.Steps.{arrival-by, entry-by}

pub record Phases (P : PlainSession → Type 0) : Type 0 where
  pub time : (s : PlainSession) (now : ℕ) → is_over s ≡ false → P s → P (time_applied s now)
  pub settles : (s : PlainSession) → P s → P (settled s)
  pub places : (t : PlainSession) (copy : RequestCopy) → is_over t ≡ false → nat_le (id_of copy) (answered_of t) ≡ false → is_open t (id_of copy) ≡ false
      → is_above t copy ≡ false → id_of copy ≤ greatest_rid → copy.arrived ≡ t.now → P t → P (advanced (placed t copy))
  pub reopens : (t : PlainSession) (tickets : List Issued) → is_over t ≡ false → P t → P (record t { tickets = tickets; last_arrival = t.now })
  pub ends : (t : PlainSession) (ending : Ending) → is_over t ≡ false → P t → P (ended ending t)
  pub gives : (t : PlainSession) (item : Outward) → P t → P (record t { given = t.given ++ item ∷ [] })
  pub aside : (t : PlainSession) (tickets : List Issued) (passed counted : ℕ) → P t → P (record t { tickets = tickets; passed = passed; counted = counted })

module _ (P : PlainSession → Type 0) (phases : Phases P) where
  phase-timed : (s : PlainSession) (now cost : ℕ) → is_over s ≡ false → P s → P (with_cost cost (time_applied s now))
  phase-timed s now cost on p =
      let t : PlainSession = time_applied s now in
      phases.aside t t.tickets t.passed (t.counted + cost) (phases.time s now on p)

  phase-replied : (s : PlainSession) (rid : ℕ) → P s → (o : Option (List ℕ)) → P (elim o as (λ x. PlainSession × Arrived) [ Some bytes ↦ (s, arrivals.Answer bytes) | None ↦ wait_at s rid ]).0
  phase-replied s rid p (Some bytes) = p
  phase-replied s rid p None = phases.aside s (s.tickets ++ record { rid = rid; state = Waits } ∷ []) s.passed s.counted p

  phase-arrived : (t : PlainSession) (request : Request) (body : List ℕ) → request.rid ≤ greatest_rid → P t → P (arrived_in_time t request body).0
  phase-arrived t request body small p =
      let copy : RequestCopy = copy_now t request body in
      arrival-by t request body (λ r. P r.0) (record {
        over = λ over. p;
        again = λ answer on within is. p;
        stale = λ on within is. phases.ends t (endings.Stale (id_of copy) (lowest_kept t)) on p;
        repeats = λ on later open_now. phases.reopens t (map (replace (id_of copy)) t.tickets ++ record { rid = id_of copy; state = Waits } ∷ []) on p;
        above = λ on later new beyond. phases.ends t (endings.Above (id_of copy) (last_of t) t.terms.requests) on p;
        fresh = λ on later new within.
            let u : PlainSession = settled (advanced (placed t copy)) in
            phase-replied u (id_of copy) (phases.settles (advanced (placed t copy)) (phases.places t copy on later new within small refl p)) (bytes_for u (id_of copy));
      })

  phase-item : (s : PlainSession) (item : Outward) → P s → P (with_item s item).0
  phase-item s item p = phases.settles (record s { given = s.given ++ item ∷ [] }) (phases.gives s item p)

  pub phase-entry : (s : PlainSession) (entered : Entered) → MayEnter s entered → P s → P (after_entry s entered)
  phase-entry s entered may p = entry-by s (λ e u. P u) (record {
    arrives = λ request body now allowed on room.
        phase-arrived (with_cost (body_cost request body) (time_applied s now)) request body (read-rid body request allowed.0).1 (phase-timed s now (body_cost request body) on p);
    backs = λ stream stanza now allowed on room.
        let t : PlainSession = with_cost (stanza_cost stanza) (time_applied s now) in
        let q = phase-timed s now (stanza_cost stanza) on p in
        split (λ (r : PlainSession × Taken). P r.0) (not (takes_items t stream)) _ _ (λ none. q)
        (λ takes. split (λ (r : PlainSession × Taken). P r.0) (has_room t stanza) _ _ (λ room. phase-item t (Stanza stream stanza) q) (λ none. q));
    closes = λ stream closing now on room.
        let t : PlainSession = with_cost plain_cost (time_applied s now) in
        let q = phase-timed s now plain_cost on p in
        split (λ (r : PlainSession × Taken). P r.0) (takes_items t stream) _ _ (λ takes. phase-item t (Close stream closing) q) (λ none. q);
    ticks = λ now on due room. phase-timed s now plain_cost on p;
    collects = λ index ticket is. phases.aside s (slice_set s.tickets index (record ticket { state = UsedUp })) s.passed s.counted p;
    takes = λ item is. phases.aside s s.tickets (s.passed + 1) s.counted p;
    limits = λ kind cost now on full. phases.ends s (endings.JournalFull s.counted cost) on p;
  }) entered may
