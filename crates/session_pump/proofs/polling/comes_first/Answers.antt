use Rattle.std.proofs.Common.{◌∙◌, rules, sym}
use Rattle.session_pump.proofs.GivingLemmas.{owing_so}
use Rattle.session_pump.proofs.polling.comes_first.Goals as goal

pub returns-in-Some-clause-behind : goal.returns-in-Some-clause-behind
returns-in-Some-clause-behind c is = (c.in-Some.line.now, search rules, sym c.owes_on.ensures ∙ owing_so _ is)
