use Rattle.script_text.proofs.KeptSteps.{undamaged}
use Rattle.script_text.proofs.laws.crashes_leave_no_damage.Goals as goal

pub returns : goal.returns
returns c = undamaged
