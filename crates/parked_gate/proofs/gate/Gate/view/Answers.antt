use Rattle.std.proofs.Common.{Some}
use Rattle.parked_gate.proofs.Keeping.{first_slot}
use Rattle.parked_gate.proofs.gate.Gate.view.Goals as goal

pub slot_mut-requires : goal.slot_mut-requires
slot_mut-requires g c = let object = c.requires.object in (c.requires.table, (Some object.0, first_slot object.1))
