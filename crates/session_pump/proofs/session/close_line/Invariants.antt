use Rattle.std.specs.Prelude.{◌≡◌, length}
use Rattle.parked_gate.specs.Passes.{Known}
use Rattle.session_journal.specs.declared.entry.Entry.{Entry}
use Rattle.session_pump.specs.Hosts.{hosts_of}
use Rattle.session_pump.specs.Sides.{served}
use Rattle.session_pump.specs.Turns.{ClosesBelow}
use Rattle.session_pump.proofs.session.close_line.Given as goal

abbrev pub invariant-loop-place : goal.invariant-loop-place
invariant-loop-place g l = record {
  count : length l.line.sides.items ≡ length l.fn.line.sides.items;
  closes : (known : Known Entry) → ClosesBelow (served known l.fn.line (hosts_of g.E.Backend.told g.E.Backend.counts l.fn.hosts)) l.place (served known l.line (hosts_of g.E.Backend.told g.E.Backend.counts l.hosts));
}
