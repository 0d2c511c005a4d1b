use Rattle.std.proofs.Common.{◌∙◌}
use Rattle.session_core.specs.Tickets.{give_answer}
use Rattle.session_core.proofs.InPlace.{changed_all, changed_step}
use Rattle.session_core.proofs.tickets.answer_all.Goals as goal

pub loop-index-preserved : goal.loop-index-preserved
loop-index-preserved c =
    changed_step (give_answer c.args.rid c.args.answer.now) c.loop-index.index c.args.out.now c.loop-index.out c.index-out-index.result c.give_answer.new.ticket c.loop-index.invariant c.loop-index-test.true c.in_ok-give_answer.ensures

pub returns : goal.returns
returns c = c.loop-index.invariant ∙ changed_all (give_answer c.args.rid c.args.answer.now) c.loop-index.index c.args.out.now c.loop-index-test.false
