use Rattle.std.proofs.Common.{sym}
use Rattle.session_pump.proofs.TurnLemmas.{at_other}
use Rattle.session_pump.proofs.session.keep_line.Goals as goal

pub returns-clause-others : goal.returns-clause-others
returns-clause-others c = λ other apart. c.in_ok-insert.ensures.updates.2 other (at_other _ other (λ e. apart (sym e)))
