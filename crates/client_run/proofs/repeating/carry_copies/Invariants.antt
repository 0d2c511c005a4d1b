use Rattle.std.proofs.Common.{◌≡◌, ◌≤◌}
use Rattle.std.specs.Prelude.{IfSome}
use Rattle.std.specs.Option.{option_map}
use Rattle.parked_gate.specs.Passes.{IsPassOf, known}
use Rattle.client_run.specs.Working.{Moves, Row, Side, ids_between, owing, setting_of, side_of, wire_of}
use Rattle.client_run.proofs.repeating.carry_copies.Given as goal

abbrev pub invariant-loop : goal.invariant-loop
invariant-loop g l = record {
  next : (goal.iterator-loop g).can_next l.iterator';
  finite : (goal.iterator-loop g).is_finite l.iterator';
  pass : IsPassOf l.site.gate.now l.pass;
  faultless : IfSome l.line (λ line. g.N.Link.Link.faults line.link ≡ 0);
  silences : g.B.Bell.silences l.fn.bell ≤ g.B.Bell.silences l.bell;
  some : 1 ≤ l.next;
  moves : (start : Side) (row : Row)
      → Moves (setting_of (g.C.Clock.moment l.site.clock.now) l.site.port) start (side_of (known l.fn.pass) (g.N.Network.events l.fn.network) (g.N.Network.counts l.fn.network)
      (option_map (λ line. wire_of (g.N.Link.Link.left line.link) (g.N.Link.Link.given line.link) line.reader) l.fn.line) (owing (ids_between l.fn.first l.last)) row)
      → (later : Row) × Moves (setting_of (g.C.Clock.moment l.site.clock.now) l.site.port) start (side_of (known l.pass) (g.N.Network.events l.network) (g.N.Network.counts l.network)
      (option_map (λ line. wire_of (g.N.Link.Link.left line.link) (g.N.Link.Link.given line.link) line.reader) l.line) (owing (ids_between l.next l.last)) later);
}
