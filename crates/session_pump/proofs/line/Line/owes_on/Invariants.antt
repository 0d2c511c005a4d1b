use Rattle.std.specs.Prelude.{◌≡◌, drop}
use Rattle.std.specs.List.{list_any}
use Rattle.session_pump.specs.Giving.{owes_on}
use Rattle.session_pump.proofs.line.Line.owes_on.Given as goal

abbrev pub invariant-loop-side : goal.invariant-loop-side
invariant-loop-side l = list_any (owes_on l.stream) l.self.sides.items ≡ list_any (owes_on l.stream) (drop l.side-index l.self.sides.items)
