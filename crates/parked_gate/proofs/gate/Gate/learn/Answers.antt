use Rattle.std.proofs.Common.{rules}
use Rattle.parked_gate.proofs.Entries.{learns}
use Rattle.parked_gate.proofs.gate.Gate.learn.Goals as goal

pub load-requires : goal.load-requires
load-requires g c = (c.requires.table, search rules, learns _ _ _ _ _ _ c.requires.held.0 c.requires.held.1)
