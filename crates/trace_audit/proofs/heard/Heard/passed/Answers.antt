use Rattle.std.proofs.Common.{refl, sym, ◌∙◌}
use Rattle.trace_audit.proofs.HeardLemmas.{breaks, heard, in_none, in_other, in_well, next_inward, none_inward}
use Rattle.trace_audit.proofs.heard.Heard.passed.Goals as goal

pub returns-in_default : goal.returns-in_default
returns-in_default c = λ t h. breaks _ _ _ (in_none _ _ _ _ _ _ _ _ t h c.args.item.now
    (none_inward _ _ _ _ _ _ _ _ t h c.deref.result.now c.deref-2.result.now c.deref.ensures.value c.deref-2.ensures.value c.in_default.ensures.none))

pub returns-then-not-same_item : goal.returns-then-not-same_item
returns-then-not-same_item c = λ t h.
    let found = next_inward _ _ _ _ _ _ _ _ t h c.deref.result.now c.deref-2.result.now c.deref.ensures.value c.deref-2.ensures.value c.in-Some.next.now c.in-Some.place c.in-Some.ensures.some in
    breaks _ _ _ (in_other _ _ _ _ _ _ _ _ t h c.args.item.now c.in-Some.next.now found.0 (sym c.same_item.ensures ∙ c.if-not-same_item.true))

pub returns : goal.returns
returns c = λ t h.
    let found = next_inward _ _ _ _ _ _ _ _ t h c.deref.result.now c.deref-2.result.now c.deref.ensures.value c.deref-2.ensures.value c.in-Some.next.now c.in-Some.place c.in-Some.ensures.some in
    heard _ _ (in_well _ _ _ _ _ _ _ _ t h c.args.item.now c.in-Some.next.now c.in-Some.place found.0 (sym c.same_item.ensures ∙ c.if-not-same_item.false) found.1) refl refl refl refl refl
