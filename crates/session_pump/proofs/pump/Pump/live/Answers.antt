use Rattle.std.proofs.Common.{refl}
use Rattle.session_pump.proofs.pump.Pump.live.Goals as goal

pub returns-in-Ok-clause-asked : goal.returns-in-Ok-clause-asked
returns-in-Ok-clause-asked g c = record { learns = c.in-Ok.ensures.looked; sessions = refl; same = refl }

pub returns-in-Err-clause-err : goal.returns-in-Err-clause-err
returns-in-Err-clause-err g c = record { learns = c.in-Err.ensures.looked; sessions = refl; same = refl }
