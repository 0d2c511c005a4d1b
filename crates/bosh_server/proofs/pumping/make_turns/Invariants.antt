use Rattle.parked_gate.specs.Passes.{IsPassOf}
use Rattle.session_pump.specs.Pumping.{pumping_of}
use Rattle.session_pump.specs.Rows.{Row}
use Rattle.bosh_server.proofs.pumping.make_turns.Given as goal

abbrev pub invariant-loop : goal.invariant-loop
invariant-loop g l = record {
  next : (goal.iterator-loop g).can_next l.iterator';
  finite : (goal.iterator-loop g).is_finite l.iterator';
  pass : IsPassOf l.yard.directory l.pump.purse.directory;
  row : Row (pumping_of g.E.Backend.told g.E.Backend.counts l.fn.pump) (pumping_of g.E.Backend.told g.E.Backend.counts l.pump);
}
