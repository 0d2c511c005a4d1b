use Rattle.parked_gate.specs.Passes.{known}
use Rattle.client_run.proofs.HandedLemmas.{goes_both, goes_gathered, goes_queued}
use Rattle.client_run.proofs.OrderLemmas.{asks_later, asks_now, further_seen}
use Rattle.client_run.proofs.running.give_up.Goals as goal

pub returns-clause-goes_on : goal.returns-clause-goes_on
returns-clause-goes_on g c = goes_queued (known c.args.pass.now) (known c.terminate.new.pass) _ c.terminate.ensures.queues

pub returns-then-started-eq1-clause-goes_on : goal.returns-then-started-eq1-clause-goes_on
returns-then-started-eq1-clause-goes_on g c =
    goes_both (known c.args.pass.now) (known c.terminate.new.pass) (known c.gather_one.new.pass) (goes_queued (known c.args.pass.now) (known c.terminate.new.pass) _ c.terminate.ensures.queues)
    (goes_gathered (known c.terminate.new.pass) (known c.gather_one.new.pass) c.gather_one.ensures.gathers.begins c.gather_one.ensures.gathers.mine)

pub returns-clause-asks : goal.returns-clause-asks
returns-clause-asks g c = asks_now (known c.args.pass.now) (known c.terminate.new.pass) c.terminate.result c.terminate.ensures.queues

pub returns-then-started-eq1-clause-asks : goal.returns-then-started-eq1-clause-asks
returns-then-started-eq1-clause-asks g c =
    asks_later (known c.args.pass.now) (known c.terminate.new.pass) (known c.gather_one.new.pass) (asks_now (known c.args.pass.now) (known c.terminate.new.pass) c.terminate.result c.terminate.ensures.queues)
    (further_seen (known c.terminate.new.pass) (known c.gather_one.new.pass) c.gather_one.ensures.gathers.begins c.gather_one.ensures.gathers.mine)
