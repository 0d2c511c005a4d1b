use Rattle.std.proofs.Common.{refl, arith}
use Rattle.bosh_commands.proofs.run.run_local.Goals as goal

-- each stands among the statuses
pub returns-in-Ok-Bad-clause-statuses : goal.returns-in-Ok-Bad-clause-statuses
returns-in-Ok-Bad-clause-statuses g c = (2, omega arith, refl)

pub returns-in-Err-ReadFault-clause-statuses : goal.returns-in-Err-ReadFault-clause-statuses
returns-in-Err-ReadFault-clause-statuses g c = (3, omega arith, refl)

pub returns-in-Err-WriteFault-clause-statuses : goal.returns-in-Err-WriteFault-clause-statuses
returns-in-Err-WriteFault-clause-statuses g c = (4, omega arith, refl)

pub returns-in-Err-NoMemory-clause-statuses : goal.returns-in-Err-NoMemory-clause-statuses
returns-in-Err-NoMemory-clause-statuses g c = (5, omega arith, refl)
