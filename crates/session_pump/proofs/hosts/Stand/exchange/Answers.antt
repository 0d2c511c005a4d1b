use Rattle.std.proofs.Common.{rules}
use Rattle.session_pump.proofs.EndsLemmas.{exchanged_to, exchanged_to_none}
use Rattle.session_pump.proofs.hosts.Stand.exchange.Goals as goal

pub returns-in-Some-clause-exchanged : goal.returns-in-Some-clause-exchanged
returns-in-Some-clause-exchanged g c =
    exchanged_to g.E.Backend.told g.E.Backend.counts c.args.self.now c.count_failure.new.self c.count_failure.ensures c.in-Some.spare.now c.swap.new.x c.swap.new.y
    c.swap.ensures.x_after c.swap.ensures.y_after (search rules) (search rules)

pub returns-in_default-clause-exchanged : goal.returns-in_default-clause-exchanged
returns-in_default-clause-exchanged g c =
    exchanged_to_none g.E.Backend.told g.E.Backend.counts c.args.self.now c.count_failure.new.self c.count_failure.ensures (search rules)
