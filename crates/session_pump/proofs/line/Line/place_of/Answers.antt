use Rattle.std.proofs.Common.{◌≡◌, ◌<◌, ◌==◌, ◌+◌, ◌∙◌, ap, eqb-true, length, Some, subst, sym}
use Rattle.std.specs.Prelude.{slice_get}
use Rattle.session_pump.proofs.ListLemmas.{got_read, got_within}
use Rattle.session_pump.proofs.PlaceLemmas.{any_further}
use Rattle.session_pump.proofs.line.Line.place_of.Goals as goal

pub returns-then-eq-clause-within : goal.returns-then-eq-clause-within
returns-then-eq-clause-within c =
    subst (λ n. n < length c.args.self.now.sides.items) (sym c.loop-side.invariant.place)
    (got_within _ _ c.side-item.result (got_read _ _ _ c.side-item.result c.deref-side-items.ensures.value c.loop-side-test.true c.side-item.is))

pub returns-then-eq-clause-of : goal.returns-then-eq-clause-of
returns-then-eq-clause-of c = (
  c.side-item.result,
  subst (λ n. slice_get c.args.self.now.sides.items n ≡ Some c.side-item.result) (sym c.loop-side.invariant.place)
      (got_read _ _ _ c.side-item.result c.deref-side-items.ensures.value c.loop-side-test.true c.side-item.is),
  eqb-true _ _ (sym c.eq.ensures ∙ c.if-eq.true),
)

pub loop-side-preserved : goal.loop-side-preserved
loop-side-preserved c = record {
  place = ap (λ n. n + 1) c.loop-side.invariant.place;
  rest = any_further (λ side. side.stream == c.args.stream) _ _ _ c.side-item.result _ c.deref-side-items.ensures.value c.loop-side-test.true c.side-item.is
      (sym c.eq.ensures ∙ c.if-eq.false) c.loop-side.invariant.rest;
}
