use Rattle.std.proofs.Common.{rules}
use Rattle.session_pump.proofs.GivingLemmas.{gives_then, over_after}
use Rattle.session_pump.proofs.polling.give_and_poll.Goals as goal

pub returns-clause-gives : goal.returns-clause-gives
returns-clause-gives g c = gives_then c.in_ok-giving.ensures.gives (c.poll.ensures.polls _ _ _ _)

pub returns-then-is_full-clause-over : goal.returns-then-is_full-clause-over
returns-then-is_full-clause-over g c is = c.in_ok-giving.ensures.full (search rules)

pub returns-clause-over : goal.returns-clause-over
returns-clause-over g c is = over_after c.in_ok-giving.ensures.gives (c.poll.ensures.over is _ _ _ _)

pub returns-clause-on : goal.returns-clause-on
returns-clause-on g c is = (_, c.in_ok-giving.ensures.gives, c.poll.ensures.gave is _ _ _)
