use Rattle.std.proofs.Common.{◌∙◌, refl}
use Rattle.session_pump.specs.NumberedTurns.{told_all}
use Rattle.session_pump.proofs.NumberedLemmas.{none_failed_so, not_counted_so, told_nobody_so}
use Rattle.session_pump.proofs.pump.Pump.tell_failures.Goals as goal

pub returns-in_err-failures-clause-tells : goal.returns-in_err-failures-clause-tells
returns-in_err-failures-clause-tells g c = not_counted_so _ _ c.from_residual.ensures.0

pub returns-then-are_same-clause-tells : goal.returns-then-are_same-clause-tells
returns-then-are_same-clause-tells g c =
    none_failed_so _ _ _ _ _ refl (c.as_slice.ensures.value ∙ c.in_ok-failures.ensures) (c.are_same.ensures c.if-are_same.true)

pub returns-in_err-live-clause-tells : goal.returns-in_err-live-clause-tells
returns-in_err-live-clause-tells g c = told_nobody_so _ _ _ c.from_residual-in_err-live.ensures.0 c.in_err-live.ensures.err

pub returns-clause-tells : goal.returns-clause-tells
returns-clause-tells g c = told_all _ c.in_ok-live.ensures.asked c.tell_all.ensures.each
