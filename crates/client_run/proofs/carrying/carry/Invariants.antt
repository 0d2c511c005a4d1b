use Rattle.std.proofs.Common.{◌≡◌, ◌≤◌, ◌<◌, ℕ, List}
use Rattle.std.specs.Prelude.{IfSome}
use Rattle.std.specs.Option.{option_map}
use Rattle.parked_gate.specs.Passes.{IsPassOf, known}
use Rattle.client_run.specs.Working.{Moves, Side, holding, no_row, row_of, setting_of, side_of, wire_of}
use Rattle.client_run.proofs.carrying.carry.Given as goal

abbrev pub invariant-loop : goal.invariant-loop
invariant-loop g l = record {
  next : (goal.iterator-loop g).can_next l.iterator';
  finite : (goal.iterator-loop g).is_finite l.iterator';
  pass : IsPassOf l.site.gate.now l.pass;
  faultless : IfSome l.line (λ line. g.N.Link.Link.faults line.link ≡ 0);
  few : l.row < 3;
  refused : l.refusals < 3;
  silences : g.B.Bell.silences l.fn.bell ≤ g.B.Bell.silences l.bell;
  moves : (start : Side) (again : List ℕ)
      → Moves (setting_of (g.C.Clock.moment l.site.clock.now) l.site.port) start (side_of (known l.fn.pass) (g.N.Network.events l.fn.network) (g.N.Network.counts l.fn.network)
      (option_map (λ line. wire_of (g.N.Link.Link.left line.link) (g.N.Link.Link.given line.link) line.reader) l.fn.line) (holding l.rid l.body again) no_row)
      → Moves (setting_of (g.C.Clock.moment l.site.clock.now) l.site.port) start (side_of (known l.pass) (g.N.Network.events l.network) (g.N.Network.counts l.network)
      (option_map (λ line. wire_of (g.N.Link.Link.left line.link) (g.N.Link.Link.given line.link) line.reader) l.line) (holding l.rid l.body again) (row_of l.row l.refusals l.last));
}
