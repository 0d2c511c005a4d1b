use Rattle.std.proofs.Common.{◌∙◌, refl, sym}
use Rattle.body_cutter.proofs.RunsRead.{run_more}
use Rattle.body_cutter.proofs.run.run_of.Goals as goal

pub loop-count-preserved : goal.loop-count-preserved
loop-count-preserved c =
    run_more _ _ _ c.loop-count.count c.loop-count.left c.in-Some.next _ c.loop-count.invariant c.loop-count-test.true refl (sym c.is_run_byte.ensures ∙ c.if-not-is_run_byte.false) (sym c.wide_next.ensures ∙ c.in-Some.is)
