use Rattle.std.proofs.Common.{rules}
use Rattle.parked_gate.proofs.Turns.{passes_on_as}
use Rattle.parked_gate.proofs.gate.Gate.pass_on.Goals as goal

pub fetch_add-served-requires : goal.fetch_add-served-requires
fetch_add-served-requires g c =
    let object = c.requires.object in (c.requires.table, search rules, passes_on_as _ _ _ _ _ object.0 _ object.1 object.2)
