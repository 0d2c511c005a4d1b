use Rattle.std.proofs.Common.{sym, ◌∙◌}
use Rattle.parked_gate.specs.Passes.{known}
use Rattle.client_run.proofs.ClosedLemmas.{end_over}
use Rattle.client_run.proofs.RanLemmas.{no_true}
use Rattle.client_run.proofs.job.close_failed.Goals as goal

pub returns-then-is_failed-clause-tells : goal.returns-then-is_failed-clause-tells
returns-then-is_failed-clause-tells g c = λ counts toil. c.close.ensures.tells counts (sym c.is_failed.ensures ∙ c.if-is_failed.true) toil

pub returns-clause-tells : goal.returns-clause-tells
returns-clause-tells g c = λ counts toil. end_over c.args.worked (known c.args.pass.now) counts (known c.args.ear.now.pass) (sym c.is_failed.ensures ∙ c.if-is_failed.false) toil

pub returns-then-is_failed-clause-asks : goal.returns-then-is_failed-clause-asks
returns-then-is_failed-clause-asks g c = λ failed. c.close.ensures.asks

pub returns-clause-asks : goal.returns-clause-asks
returns-clause-asks g c = λ failed. no_true _ (sym c.is_failed.ensures ∙ c.if-is_failed.false) failed
