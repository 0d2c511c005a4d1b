use Rattle.std.proofs.Common.{◌≤◌, ◌-◌, ℕ, List, None}
use Rattle.std.specs.Prelude.{Option}
use Rattle.parked_gate.specs.Passes.{Known}
use Rattle.client_run.specs.declared.entry.Entry.{Entry}
use Rattle.client_run.specs.Working.{Hand, Moves, Side, no_row, row_of, setting_of, side_of}
use Rattle.client_run.proofs.working.first_line.Given as goal

abbrev pub invariant-loop-row : goal.invariant-loop-row
invariant-loop-row g l = record {
  few : l.row ≤ 3;
  moves : (moment : Option ℕ) (start : Side) (known : Known Entry) (hand : Hand)
      → Moves (setting_of moment l.port) start (side_of known (g.N.Network.events l.fn.network) (g.N.Network.counts l.fn.network) None hand no_row)
      → Moves (setting_of moment l.port) start (side_of known (g.N.Network.events l.network) (g.N.Network.counts l.network) None hand (row_of l.row 0 0));
}

abbrev pub decreases-loop-row : goal.decreases-loop-row
decreases-loop-row g l = 3 - l.row
