use Rattle.std.proofs.Common.{Some, refl, rules}
use Rattle.port_tests.proofs.gates.CounterObject.step.Goals as goal

pub returns : goal.returns
returns c = (Some (c.args.caller, c.args.number), (search rules, refl), (search rules, refl))
