use Rattle.parked_gate.specs.Passes.{known}
use Rattle.client_run.proofs.RanLemmas.{concluded_none, concluded_some}
use Rattle.client_run.proofs.HandedLemmas.{goes_looked}
use Rattle.client_run.proofs.running.conclude.Goals as goal

pub returns-in-Some-clause-concludes : goal.returns-in-Some-clause-concludes
returns-in-Some-clause-concludes g c = concluded_some c.args.stuck (known c.args.pass.now) (known c.look.new.pass) c.in-Some.end c.ran_by.result c.in-Some.ensures.looks c.ran_by.ensures

pub returns-in-None-clause-concludes : goal.returns-in-None-clause-concludes
returns-in-None-clause-concludes g c = concluded_none c.args.stuck (known c.args.pass.now) (known c.look.new.pass) c.spent.result c.in-None.ensures.looks c.spent.ensures

pub returns-in-Some-clause-goes_on : goal.returns-in-Some-clause-goes_on
returns-in-Some-clause-goes_on g c = goes_looked (known c.args.pass.now) (known c.look.new.pass) _ c.in-Some.ensures.looks

pub returns-in-None-clause-goes_on : goal.returns-in-None-clause-goes_on
returns-in-None-clause-goes_on g c = goes_looked (known c.args.pass.now) (known c.look.new.pass) _ c.in-None.ensures.looks
