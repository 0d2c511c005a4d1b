use Rattle.parked_gate.specs.Passes.{known}
use Rattle.client_run.proofs.ClosedLemmas.{end_closed, end_wanted}
use Rattle.client_run.proofs.OrderLemmas.{asks_now}
use Rattle.client_run.proofs.job.close.Goals as goal

pub returns-in-Ok-clause-tells : goal.returns-in-Ok-clause-tells
returns-in-Ok-clause-tells g c = λ counts failed toil. end_closed c.args.worked (known c.args.pass.now) (known c.terminate.new.pass) counts (known c.args.ear.now.pass) (known c.raise.new.self.pass) _ c.in-Ok.ensures.queues c.raise.ensures failed toil

pub returns-in-Err-clause-tells : goal.returns-in-Err-clause-tells
returns-in-Err-clause-tells g c = λ counts failed toil. end_wanted _ (known c.terminate.new.pass) counts (known c.raise.new.self.pass) c.raise.ensures

pub returns-in-Ok-clause-asks : goal.returns-in-Ok-clause-asks
returns-in-Ok-clause-asks g c = asks_now (known c.args.pass.now) (known c.terminate.new.pass) c.terminate.result c.terminate.ensures.queues

pub returns-in-Err-clause-asks : goal.returns-in-Err-clause-asks
returns-in-Err-clause-asks g c = asks_now (known c.args.pass.now) (known c.terminate.new.pass) c.terminate.result c.terminate.ensures.queues
