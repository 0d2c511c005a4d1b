-- What every move keeps, every entry keeps.
use Rattle.std.proofs.Common.{◌≡◌, ℕ, ◌+◌, ◌≤◌, false, not, List, [], ◌∷◌, ◌++◌, Option, Some, None, nat_le, is_some, refl, map, slice_set}
use Rattle.std.proofs.lemmas.Bool.{leb-false}
use Rattle.bosh_types.specs.Rid.{greatest_rid}
use Rattle.bosh_types.specs.declared.ending.Ending.TheVariants as endings
use Rattle.session_attrs.specs.declared.request.Request.{Request}
use Rattle.session_core.specs.declared.copy.RequestCopy.{RequestCopy}
use Rattle.session_core.specs.declared.outward.Outward.{Outward}
use Rattle.session_core.specs.declared.outward.Outward.TheVariants.{Stanza, Close}
use Rattle.session_core.specs.declared.replies.Arrived.{Arrived}
use Rattle.session_core.specs.declared.replies.Arrived.TheVariants as arrivals
use Rattle.session_core.specs.declared.replies.Taken.{Taken}
use Rattle.session_core.specs.Answers.{settled}
use Rattle.session_core.specs.Copy.{id_of}
use Rattle.session_core.specs.Journal.{Entered, after_entry, MayEnter}
use Rattle.session_core.specs.Kept.{lowest_kept}
use Rattle.session_core.specs.Machine.{advanced, placed, bytes_for, wait_at, copy_now, arrived_in_time, with_cost, body_cost, stanza_cost, plain_cost, takes_items, has_room, with_item, replace}
use Rattle.session_core.specs.State.{PlainSession, Stands, Waits, UsedUp, last_of, standing_at}
use Rattle.session_core.specs.Time.{time_applied}
use Rattle.session_core.specs.Window.{is_open}
use Rattle.session_laws.proofs.Tests.{split, neither}
use Rattle.session_laws.proofs.Moves.{Steady, answering, processing, waits, settled-by, advanced-by, time_applied-by}
use Rattle.session_laws.proofs.Read.{read-rid}
use Rattle.session_laws.proofs.Steps.{arrival-by, entry-by}

pub is_none : {X : Type 0} (o : Option X) → is_some o ≡ false → o ≡ None
is_none None is = refl
is_none (Some x) is = absurd (cc)

module _ (P : PlainSession → Type 0) (steady : Steady P) where
  pub steady-settled : (s : PlainSession) → P s → P (settled s)
  steady-settled s p = settled-by P (answering P steady) s p

  pub steady-advanced : (s : PlainSession) → P s → P (advanced s)
  steady-advanced s p = advanced-by P (processing P steady) s p

  pub steady-time : (s : PlainSession) (now : ℕ) → P s → P (time_applied s now)
  steady-time s now p = time_applied-by P (waits P steady) (answering P steady) s now p

  steady-cost : (cost : ℕ) (s : PlainSession) → P s → P (with_cost cost s)
  steady-cost cost s p = steady.aside s s.tickets s.now s.last_arrival s.passed (s.counted + cost) p

  steady-replied : (s : PlainSession) (rid : ℕ) → P s → (o : Option (List ℕ)) → P (elim o as (λ x. PlainSession × Arrived) [ Some bytes ↦ (s, arrivals.Answer bytes) | None ↦ wait_at s rid ]).0
  steady-replied s rid p (Some bytes) = p
  steady-replied s rid p None = steady.aside s (s.tickets ++ record { rid = rid; state = Waits } ∷ []) s.now s.last_arrival s.passed s.counted p

  pub steady-placed : (s : PlainSession) (copy : RequestCopy) → is_open s (id_of copy) ≡ false → id_of copy ≤ greatest_rid → P s → P (placed s copy)
  steady-placed s copy new small p =
      let apart = neither (nat_le (id_of copy) (last_of s)) (is_some (standing_at s (id_of copy))) new in
      let stood : PlainSession = record s { placings = s.placings ++ Stands copy ∷ [] } in
      steady.aside stood s.tickets s.now s.now s.passed s.counted
      (steady.stands s copy (leb-false (id_of copy) (last_of s) apart.0) (is_none (standing_at s (id_of copy)) apart.1) small p)

  steady-arrived : (t : PlainSession) (request : Request) (body : List ℕ) → request.rid ≤ greatest_rid → P t → P (arrived_in_time t request body).0
  steady-arrived t request body small p =
      let copy : RequestCopy = copy_now t request body in
      arrival-by t request body (λ r. P r.0) (record {
        over = λ over. p;
        again = λ answer on within is. p;
        stale = λ on within is. steady.ends t (endings.Stale (id_of copy) (lowest_kept t)) on p;
        repeats = λ on later open_now. steady.aside t (map (replace (id_of copy)) t.tickets ++ record { rid = id_of copy; state = Waits } ∷ []) t.now t.now t.passed t.counted p;
        above = λ on later new beyond. steady.ends t (endings.Above (id_of copy) (last_of t) t.terms.requests) on p;
        fresh = λ on later new within.
            let u : PlainSession = settled (advanced (placed t copy)) in
            steady-replied u (id_of copy) (steady-settled (advanced (placed t copy)) (steady-advanced (placed t copy) (steady-placed t copy new small p))) (bytes_for u (id_of copy));
      })

  steady-item : (s : PlainSession) (item : Outward) → P s → P (with_item s item).0
  steady-item s item p = steady-settled (record s { given = s.given ++ item ∷ [] }) (steady.gives s item p)

  pub steady-entry : (s : PlainSession) (entered : Entered) → MayEnter s entered → P s → P (after_entry s entered)
  steady-entry s entered may p = entry-by s (λ e u. P u) (record {
    arrives = λ request body now allowed on room.
        steady-arrived (with_cost (body_cost request body) (time_applied s now)) request body (read-rid body request allowed.0).1 (steady-cost (body_cost request body) (time_applied s now) (steady-time s now p));
    backs = λ stream stanza now allowed on room.
        let t : PlainSession = with_cost (stanza_cost stanza) (time_applied s now) in
        let q = steady-cost (stanza_cost stanza) (time_applied s now) (steady-time s now p) in
        split (λ (r : PlainSession × Taken). P r.0) (not (takes_items t stream)) _ _ (λ none. q)
        (λ takes. split (λ (r : PlainSession × Taken). P r.0) (has_room t stanza) _ _ (λ room. steady-item t (Stanza stream stanza) q) (λ none. q));
    closes = λ stream closing now on room.
        let t : PlainSession = with_cost plain_cost (time_applied s now) in
        let q = steady-cost plain_cost (time_applied s now) (steady-time s now p) in
        split (λ (r : PlainSession × Taken). P r.0) (takes_items t stream) _ _ (λ takes. steady-item t (Close stream closing) q) (λ none. q);
    ticks = λ now on due room. steady-cost plain_cost (time_applied s now) (steady-time s now p);
    collects = λ index ticket is. steady.aside s (slice_set s.tickets index (record ticket { state = UsedUp })) s.now s.last_arrival s.passed s.counted p;
    takes = λ item is. steady.aside s s.tickets s.now s.last_arrival (s.passed + 1) s.counted p;
    limits = λ kind cost now on full. steady.ends s (endings.JournalFull s.counted cost) on p;
  }) entered may
