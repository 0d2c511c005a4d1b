use Rattle.std.proofs.Common.{refl, sym, ap, ◌∙◌, arith}
use Rattle.trace_audit.specs.Ids.{distance, first_id}
use Rattle.trace_audit.proofs.HeardLemmas.{breaks, heard, took_higher, took_lower, took_well}
use Rattle.trace_audit.proofs.heard.Heard.took.Goals as goal

pub returns-in_default : goal.returns-in_default
returns-in_default c = λ t h. breaks _ _ _ (took_lower _ _ _ _ _ _ _ _ t h c.args.rid
    (ap (λ l. distance (first_id l) c.args.rid) (sym c.deref.ensures.value) ∙ sym c.distance.ensures ∙ c.in_default.is))

pub returns-then-place-len : goal.returns-then-place-len
returns-then-place-len c = λ t h. breaks _ _ _ (took_higher _ _ _ _ _ _ _ _ t h c.args.rid c.in-Some.place
    (ap (λ l. distance (first_id l) c.args.rid) (sym c.deref.ensures.value) ∙ sym c.distance.ensures ∙ c.in-Some.is)
    (omega (arith, c.if-place-len.true, c.len.ensures)))

pub returns : goal.returns
returns c = λ t h. heard _ _ (took_well _ _ _ _ _ _ _ _ t h c.args.rid c.in-Some.place
    (ap (λ l. distance (first_id l) c.args.rid) (sym c.deref.ensures.value) ∙ sym c.distance.ensures ∙ c.in-Some.is)
    (omega (arith, c.if-place-len.false, c.len.ensures)))
    refl refl refl refl (sym c.mark.ensures)
