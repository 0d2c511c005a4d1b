use Rattle.std.proofs.Common.{◌∙◌, sym}
use Rattle.session_pump.specs.Giving.{owes_on}
use Rattle.session_pump.proofs.PlaceLemmas.{any_further, any_here}
use Rattle.session_pump.proofs.line.Line.owes_on.Goals as goal

pub returns-then-owes_on : goal.returns-then-owes_on
returns-then-owes_on c =
    sym (any_here (owes_on c.args.stream) _ _ _ c.side-item.result _ c.deref-side-items.ensures.value c.loop-side-test.true c.side-item.is
    (sym c.owes_on.ensures ∙ c.if-owes_on.true) c.loop-side.invariant)

pub loop-side-preserved : goal.loop-side-preserved
loop-side-preserved c =
    any_further (owes_on c.args.stream) _ _ _ c.side-item.result _ c.deref-side-items.ensures.value c.loop-side-test.true c.side-item.is
    (sym c.owes_on.ensures ∙ c.if-owes_on.false) c.loop-side.invariant
