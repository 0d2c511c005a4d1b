use Rattle.std.specs.Prelude.{◌≡◌, drop}
use Rattle.std.specs.List.{list_any}
use Rattle.session_pump.specs.Giving.{is_open_here}
use Rattle.session_pump.proofs.line.Line.place_here.Given as goal

abbrev pub invariant-loop-side : goal.invariant-loop-side
invariant-loop-side l = record {
  at : l.at ≡ l.side-index;
  rest : list_any (is_open_here l.stream l.place l.failures) l.self.sides.items ≡ list_any (is_open_here l.stream l.place l.failures) (drop l.side-index l.self.sides.items);
}
