use Rattle.script_text.specs.Manager.{closed_on}
use Rattle.std.proofs.Common.{◌∙◌, ap}
use Rattle.session_core.proofs.InPlace.{changed_all, changed_step}
use Rattle.script_text.proofs.live.close_all.Goals as goal

pub loop-index-preserved : goal.loop-index-preserved
loop-index-preserved c =
    changed_step (closed_on c.args.conn) c.loop-index.index c.args.parked.now c.loop-index.parked c.index-parked-index.result c.closed_on.result c.loop-index.invariant c.loop-index-test.true (c.closed_on.ensures ∙ ap (closed_on c.args.conn) c.index-parked-index.is)

pub returns : goal.returns
returns c = c.loop-index.invariant ∙ changed_all (closed_on c.args.conn) c.loop-index.index c.args.parked.now c.loop-index-test.false
