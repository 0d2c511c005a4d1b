use Rattle.std.proofs.Common.{rules}
use Rattle.parked_gate.proofs.Turns.{watches}
use Rattle.parked_gate.proofs.gate.Gate.watch.Goals as goal

pub load-requires : goal.load-requires
load-requires g c = (c.requires.table, search rules, watches _ _ _ _ _ _ _ c.requires.turn c.requires.empty)
