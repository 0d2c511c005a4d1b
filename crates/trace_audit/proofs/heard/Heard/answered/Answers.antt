use Rattle.std.proofs.Common.{refl, sym, ap, ◌∙◌, length}
use Rattle.std.specs.Prelude.{slice_get}
use Rattle.trace_audit.specs.Ids.{distance, first_id, is_marked}
use Rattle.trace_audit.proofs.HeardLemmas.{answer_early, answer_lower, answer_ungiven, answer_unlowest, answer_unread, answer_well, breaks, handed_as, has_at_as, heard, repeat_well, typed_well}
use Rattle.trace_audit.proofs.heard.Heard.answered.Goals as goal

pub returns-in_default : goal.returns-in_default
returns-in_default c = λ t h. breaks _ _ _ (answer_unread _ _ _ _ _ _ _ _ t h c.args.rid c.args.body (sym c.in_ok-reply.ensures ∙ c.in_default.is))

pub returns-in_default-distance : goal.returns-in_default-distance
returns-in_default-distance c = λ t h. breaks _ _ _ (answer_lower _ _ _ _ _ _ _ _ t h c.args.rid c.args.body c.in-Some.reply (sym c.in_ok-reply.ensures ∙ c.in-Some.is)
    (ap (λ l. distance (first_id l) c.in-Some.reply.rid) (sym c.deref.ensures.value) ∙ sym c.distance.ensures ∙ c.in_default-distance.is))

pub returns-then-not-is_marked : goal.returns-then-not-is_marked
returns-then-not-is_marked c = λ t h. breaks _ _ _ (answer_early _ _ _ _ _ _ _ _ t h c.args.rid c.args.body c.in-Some.reply (sym c.in_ok-reply.ensures ∙ c.in-Some.is) c.in-Some-distance.place
    (ap (λ l. distance (first_id l) c.in-Some.reply.rid) (sym c.deref.ensures.value) ∙ sym c.distance.ensures ∙ c.in-Some-distance.is)
    (ap (λ l. is_marked l c.in-Some-distance.place) (sym c.deref-2.ensures.value) ∙ sym c.is_marked.ensures ∙ c.if-not-is_marked.true))

pub returns-then-reply : goal.returns-then-reply
returns-then-reply c = λ t h. heard _ _ (typed_well _ _ _ _ _ _ _ _ t h c.args.rid c.args.body c.in-Some.reply (sym c.in_ok-reply.ensures ∙ c.in-Some.is) c.in-Some-distance.place
    (ap (λ l. distance (first_id l) c.in-Some.reply.rid) (sym c.deref.ensures.value) ∙ sym c.distance.ensures ∙ c.in-Some-distance.is)
    (ap (λ l. is_marked l c.in-Some-distance.place) (sym c.deref-2.ensures.value) ∙ sym c.is_marked.ensures ∙ c.if-not-is_marked.false)
    c.if-reply.true) refl refl refl refl refl

pub returns-in-Some-answer_at : goal.returns-in-Some-answer_at
returns-in-Some-answer_at c = λ t h.
    let judged = repeat_well _ _ _ _ _ _ _ _ t h c.args.rid c.args.body c.in-Some.reply (sym c.in_ok-reply.ensures ∙ c.in-Some.is) c.in-Some-distance.place
    (ap (λ l. distance (first_id l) c.in-Some.reply.rid) (sym c.deref.ensures.value) ∙ sym c.distance.ensures ∙ c.in-Some-distance.is)
    (ap (λ l. is_marked l c.in-Some-distance.place) (sym c.deref-2.ensures.value) ∙ sym c.is_marked.ensures ∙ c.if-not-is_marked.false)
    c.if-reply.false c.in-Some-answer_at.earlier.now
    (ap (λ l. slice_get l c.in-Some-distance.place) (sym c.deref-3.ensures.value) ∙ sym c.in-Some-answer_at.ensures) in
    heard _ _ (c.changed.ensures ∙ judged.0, judged.1) refl refl refl refl refl

pub returns-then-not-is_lowest : goal.returns-then-not-is_lowest
returns-then-not-is_lowest c = λ t h. breaks _ _ _ (answer_unlowest _ _ _ _ _ _ _ _ t h c.args.rid c.args.body c.in-Some.reply (sym c.in_ok-reply.ensures ∙ c.in-Some.is) c.in-Some-distance.place
    (ap (λ l. distance (first_id l) c.in-Some.reply.rid) (sym c.deref.ensures.value) ∙ sym c.distance.ensures ∙ c.in-Some-distance.is)
    (ap (λ l. is_marked l c.in-Some-distance.place) (sym c.deref-2.ensures.value) ∙ sym c.is_marked.ensures ∙ c.if-not-is_marked.false)
    c.if-reply.false
    (ap (λ l. slice_get l c.in-Some-distance.place) (sym c.deref-3.ensures.value) ∙ sym c.in_default-answer_at.ensures)
    (has_at_as _ _ _ _ _ _ _ c.is_lowest.ensures c.deref-4.ensures.value (c.len.ensures ∙ sym c.deref-3.ensures.len ∙ ap length c.deref-3.ensures.value) c.if-not-is_lowest.true))

pub returns-in_default-handed_after : goal.returns-in_default-handed_after
returns-in_default-handed_after c = λ t h. breaks _ _ _ (answer_ungiven _ _ _ _ _ _ _ _ t h c.args.rid c.args.body c.in-Some.reply (sym c.in_ok-reply.ensures ∙ c.in-Some.is) c.in-Some-distance.place
    (ap (λ l. distance (first_id l) c.in-Some.reply.rid) (sym c.deref.ensures.value) ∙ sym c.distance.ensures ∙ c.in-Some-distance.is)
    (ap (λ l. is_marked l c.in-Some-distance.place) (sym c.deref-2.ensures.value) ∙ sym c.is_marked.ensures ∙ c.if-not-is_marked.false)
    c.if-reply.false
    (ap (λ l. slice_get l c.in-Some-distance.place) (sym c.deref-3.ensures.value) ∙ sym c.in_default-answer_at.ensures)
    (has_at_as _ _ _ _ _ _ _ c.is_lowest.ensures c.deref-4.ensures.value (c.len.ensures ∙ sym c.deref-3.ensures.len ∙ ap length c.deref-3.ensures.value) c.if-not-is_lowest.false)
    (handed_as _ _ _ _ _ _ _ c.handed_after.ensures c.deref-5.ensures.value c.as_slice.ensures c.in_default-handed_after.is))

pub returns : goal.returns
returns c = λ t h. heard _ _ (answer_well _ _ _ _ _ _ _ _ t h c.args.rid c.args.body c.in-Some.reply (sym c.in_ok-reply.ensures ∙ c.in-Some.is) c.in-Some-distance.place
    (ap (λ l. distance (first_id l) c.in-Some.reply.rid) (sym c.deref.ensures.value) ∙ sym c.distance.ensures ∙ c.in-Some-distance.is)
    (ap (λ l. is_marked l c.in-Some-distance.place) (sym c.deref-2.ensures.value) ∙ sym c.is_marked.ensures ∙ c.if-not-is_marked.false)
    c.if-reply.false
    (ap (λ l. slice_get l c.in-Some-distance.place) (sym c.deref-3.ensures.value) ∙ sym c.in_default-answer_at.ensures)
    c.in-Some-handed_after.handed
    (has_at_as _ _ _ _ _ _ _ c.is_lowest.ensures c.deref-4.ensures.value (c.len.ensures ∙ sym c.deref-3.ensures.len ∙ ap length c.deref-3.ensures.value) c.if-not-is_lowest.false)
    (handed_as _ _ _ _ _ _ _ c.handed_after.ensures c.deref-5.ensures.value c.as_slice.ensures c.in-Some-handed_after.is))
    refl refl refl (sym c.in_ok-push.ensures.items) (sym c.in_ok-push-2.ensures.items)
