use Rattle.std.proofs.Common.{sym}
use Rattle.session_pump.proofs.TurnLemmas.{at_other}
use Rattle.session_pump.proofs.session.forget_line.Goals as goal

pub returns-clause-others : goal.returns-clause-others
returns-clause-others c = λ other apart. c.remove.ensures.updates.2 other (at_other _ other (λ e. apart (sym e)))
