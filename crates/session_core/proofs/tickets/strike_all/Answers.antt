use Rattle.std.proofs.Common.{◌∙◌}
use Rattle.session_core.specs.Tickets.{strike}
use Rattle.session_core.proofs.InPlace.{changed_all, changed_step}
use Rattle.session_core.proofs.tickets.strike_all.Goals as goal

pub loop-index-preserved : goal.loop-index-preserved
loop-index-preserved c =
    changed_step (strike c.args.rid c.args.error.now) c.loop-index.index c.args.out.now c.loop-index.out c.index-out-index.result c.strike_one.new.ticket c.loop-index.invariant c.loop-index-test.true c.in_ok-strike_one.ensures

pub returns : goal.returns
returns c = c.loop-index.invariant ∙ changed_all (strike c.args.rid c.args.error.now) c.loop-index.index c.args.out.now c.loop-index-test.false
