use Rattle.std.proofs.Common.{subst}
use Rattle.bosh_client.specs.Machine.{answer}
use Rattle.bosh_client.specs.StandsFor.{Does}
use Rattle.two_ends.proofs.ReturnLemmas.{again_step, broken_step, done_step, stale_step, unmade_step}
use Rattle.two_ends.proofs.TurnLemmas.{IfOk-from}
use Rattle.two_ends.proofs.world.World.answered.Goals as goal

pub returns-in-Done : goal.returns-in-Done
returns-in-Done c = IfOk-from c.took.result _ _ (λ news it w is.
    done_step c.args.self.now w is c.args.rid c.args.body _ c.in_ok-answered.answered
    (subst (λ b. Does c.answer.new.self c.in_ok-answered.answered (answer w.client c.args.rid b c.args.self.now.moment)) c.as_slice.ensures (c.in_ok-answered.ensures.step w.client is.rest.client))
    news c.took.new.self c.in-Done.is c.ended-before.result (c.ended-before.ensures w.client is.rest.client) it) c.took.ensures

pub returns-in-Unmade : goal.returns-in-Unmade
returns-in-Unmade c = λ w is.
    unmade_step c.args.self.now w is c.args.rid c.args.body _ c.in_ok-answered.answered
    (subst (λ b. Does c.answer.new.self c.in_ok-answered.answered (answer w.client c.args.rid b c.args.self.now.moment)) c.as_slice.ensures (c.in_ok-answered.ensures.step w.client is.rest.client))
    _ c.in-Unmade.is c.nothing.ensures

pub returns-in-Stale : goal.returns-in-Stale
returns-in-Stale c = IfOk-from c.only.result _ _ (λ news it w is.
    stale_step c.args.self.now w is c.args.rid c.args.body _ c.in_ok-answered.answered
    (subst (λ b. Does c.answer.new.self c.in_ok-answered.answered (answer w.client c.args.rid b c.args.self.now.moment)) c.as_slice.ensures (c.in_ok-answered.ensures.step w.client is.rest.client))
    news c.in-Stale.is it) c.only.ensures

pub returns-in-Broken : goal.returns-in-Broken
returns-in-Broken c = IfOk-from c.only-in-Broken.result _ _ (λ news it w is.
    broken_step c.args.self.now w is c.args.rid c.args.body _ c.in_ok-answered.answered
    (subst (λ b. Does c.answer.new.self c.in_ok-answered.answered (answer w.client c.args.rid b c.args.self.now.moment)) c.as_slice.ensures (c.in_ok-answered.ensures.step w.client is.rest.client))
    news _ c.in-Broken.is it) c.only-in-Broken.ensures

pub returns : goal.returns
returns c = IfOk-from c.only-in-Again.result _ _ (λ news it w is.
    again_step c.args.self.now w is c.args.rid c.args.body _ c.in_ok-answered.answered
    (subst (λ b. Does c.answer.new.self c.in_ok-answered.answered (answer w.client c.args.rid b c.args.self.now.moment)) c.as_slice.ensures (c.in_ok-answered.ensures.step w.client is.rest.client))
    news c.in-Again.first c.in-Again.last c.in-Again.is it) c.only-in-Again.ensures
