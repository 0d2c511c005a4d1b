use Rattle.std.specs.Prelude.{◌≡◌, ◌==◌, drop}
use Rattle.std.specs.List.{list_any}
use Rattle.session_pump.proofs.line.Line.place_of.Given as goal

abbrev pub invariant-loop-side : goal.invariant-loop-side
invariant-loop-side l = record {
  place : l.place ≡ l.side-index;
  rest : list_any (λ side. side.stream == l.stream) l.self.sides.items ≡ list_any (λ side. side.stream == l.stream) (drop l.side-index l.self.sides.items);
}
