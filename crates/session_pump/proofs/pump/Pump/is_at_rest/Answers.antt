use Rattle.std.proofs.Common.{rules, sym}
use Rattle.session_pump.proofs.LeavingLemmas.{rests_so}
use Rattle.session_pump.proofs.pump.Pump.is_at_rest.Goals as goal

pub returns : goal.returns
returns g c is = rests_so _ _ _ _ _ _ (sym c.in-Some.ensures.value) (search rules) (c.are_at_rest.ensures is)
