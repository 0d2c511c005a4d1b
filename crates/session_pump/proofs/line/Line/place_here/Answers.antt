use Rattle.std.proofs.Common.{◌≡◌, ◌<◌, ◌+◌, ◌∙◌, ap, length, Some, subst, sym}
use Rattle.std.specs.Prelude.{slice_get}
use Rattle.session_pump.specs.Giving.{is_open_here}
use Rattle.session_pump.proofs.ListLemmas.{got_read, got_within}
use Rattle.session_pump.proofs.PlaceLemmas.{any_further}
use Rattle.session_pump.proofs.line.Line.place_here.Goals as goal

pub returns-then-is_open_here-clause-within : goal.returns-then-is_open_here-clause-within
returns-then-is_open_here-clause-within c =
    subst (λ n. n < length c.args.self.now.sides.items) (sym c.loop-side.invariant.at)
    (got_within _ _ c.side-item.result (got_read _ _ _ c.side-item.result c.deref-side-items.ensures.value c.loop-side-test.true c.side-item.is))

pub returns-then-is_open_here-clause-here : goal.returns-then-is_open_here-clause-here
returns-then-is_open_here-clause-here c = (
  c.side-item.result,
  subst (λ n. slice_get c.args.self.now.sides.items n ≡ Some c.side-item.result) (sym c.loop-side.invariant.at)
      (got_read _ _ _ c.side-item.result c.deref-side-items.ensures.value c.loop-side-test.true c.side-item.is),
  sym c.is_open_here.ensures ∙ c.if-is_open_here.true,
)

pub loop-side-preserved : goal.loop-side-preserved
loop-side-preserved c = record {
  at = ap (λ n. n + 1) c.loop-side.invariant.at;
  rest = any_further (is_open_here c.args.stream c.args.place c.args.failures) _ _ _ c.side-item.result _ c.deref-side-items.ensures.value c.loop-side-test.true c.side-item.is
      (sym c.is_open_here.ensures ∙ c.if-is_open_here.false) c.loop-side.invariant.rest;
}
