use Rattle.std.proofs.Common.{refl, sym, ap, ◌∙◌}
use Rattle.std.specs.Prelude.{slice_get}
use Rattle.trace_audit.specs.Ids.{distance, first_id}
use Rattle.trace_audit.proofs.HeardLemmas.{breaks, came_lower, came_other, came_unread, came_unsent, came_well, heard, other_bytes, same_bytes}
use Rattle.trace_audit.proofs.heard.Heard.came.Goals as goal

pub returns-in_default : goal.returns-in_default
returns-in_default c = λ t h. breaks _ _ _ (came_unread _ _ _ _ _ _ _ _ t h c.args.body (sym c.in_ok-posted.ensures ∙ c.in_default.is))

pub returns-in_default-distance : goal.returns-in_default-distance
returns-in_default-distance c = λ t h. breaks _ _ _ (came_lower _ _ _ _ _ _ _ _ t h c.args.body c.in-Some.posted (sym c.in_ok-posted.ensures ∙ c.in-Some.is)
    (ap (λ l. distance (first_id l) c.in-Some.posted.rid) (sym c.deref.ensures.value) ∙ sym c.distance.ensures ∙ c.in_default-distance.is))

pub returns-in_default-request_at : goal.returns-in_default-request_at
returns-in_default-request_at c = λ t h. breaks _ _ _ (came_unsent _ _ _ _ _ _ _ _ t h c.args.body c.in-Some.posted (sym c.in_ok-posted.ensures ∙ c.in-Some.is) c.in-Some-distance.place
    (ap (λ l. distance (first_id l) c.in-Some.posted.rid) (sym c.deref.ensures.value) ∙ sym c.distance.ensures ∙ c.in-Some-distance.is)
    (ap (λ l. slice_get l c.in-Some-distance.place) (sym c.deref-2.ensures.value) ∙ sym c.in_default-request_at.ensures))

pub returns-then-ne : goal.returns-then-ne
returns-then-ne c = λ t h. breaks _ _ _ (came_other _ _ _ _ _ _ _ _ t h c.args.body c.in-Some.posted (sym c.in_ok-posted.ensures ∙ c.in-Some.is) c.in-Some-distance.place c.in-Some-request_at.sent.now
    (ap (λ l. distance (first_id l) c.in-Some.posted.rid) (sym c.deref.ensures.value) ∙ sym c.distance.ensures ∙ c.in-Some-distance.is)
    (ap (λ l. slice_get l c.in-Some-distance.place) (sym c.deref-2.ensures.value) ∙ sym c.in-Some-request_at.ensures)
    (other_bytes _ _ _ _ _ c.ne.ensures c.as_slice.ensures c.as_slice-2.ensures c.if-ne.true))

pub returns : goal.returns
returns c = λ t h. heard _ _ (came_well _ _ _ _ _ _ _ _ t h c.args.body c.in-Some.posted (sym c.in_ok-posted.ensures ∙ c.in-Some.is) c.in-Some-distance.place c.in-Some-request_at.sent.now
    (ap (λ l. distance (first_id l) c.in-Some.posted.rid) (sym c.deref.ensures.value) ∙ sym c.distance.ensures ∙ c.in-Some-distance.is)
    (ap (λ l. slice_get l c.in-Some-distance.place) (sym c.deref-2.ensures.value) ∙ sym c.in-Some-request_at.ensures)
    (same_bytes _ _ _ _ _ c.ne.ensures c.as_slice.ensures c.as_slice-2.ensures c.if-ne.false))
    refl refl (sym c.mark.ensures) refl refl
