use Rattle.bosh_client.specs.StandsFor.{StandsFor}
use Rattle.bosh_client.proofs.StepLemmas.{fewer_left, hands_out}
use Rattle.bosh_client.proofs.client.Client.hand_out_on.Goals as goal

pub returns-clause-step : goal.returns-clause-step
unfolding StandsFor
returns-clause-step c = λ plain stands.
    hands_out c.args.self.now c.move_on.new.exchanges c.move_on.new.inbox _ _ plain stands (c.move_on.ensures.stands plain stands.requests) c.move_on.ensures.stops
    c.take_first.ensures.first c.take_first.ensures.after

pub returns-clause-fewer : goal.returns-clause-fewer
returns-clause-fewer c = fewer_left c.move_on.new.inbox _ _ c.take_first.ensures.first c.take_first.ensures.after _ _ c.move_on.ensures.left
