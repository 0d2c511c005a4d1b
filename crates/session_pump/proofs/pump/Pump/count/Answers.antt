use Rattle.std.proofs.Common.{sym}
use Rattle.session_pump.specs.Turns.{asked_not, wanted}
use Rattle.session_pump.proofs.TurnLemmas.{counted_live, counted_so}
use Rattle.session_pump.proofs.pump.Pump.count.Goals as goal

pub returns-in-Ok-live-clause-counts : goal.returns-in-Ok-live-clause-counts
returns-in-Ok-live-clause-counts g c = counted_live _ _ _ _ c.in-Ok.is c.len.ensures c.in-Ok-live.ensures.asked

pub returns-in-Err-live-clause-counts : goal.returns-in-Err-live-clause-counts
returns-in-Err-live-clause-counts g c = counted_so _ _ _ _ (sym c.in-Ok.is) (asked_not _ c.in-Err-live.ensures.err)

pub returns-in-Err-clause-counts : goal.returns-in-Err-clause-counts
returns-in-Err-clause-counts g c = counted_so _ _ _ _ (sym c.in-Err.is) (wanted _ _)
