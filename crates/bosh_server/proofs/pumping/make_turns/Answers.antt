use Rattle.std.proofs.Common.{sym, subst}
use Rattle.parked_gate.specs.Passes.{IsPassOf}
use Rattle.session_pump.specs.Rows.{no_call}
use Rattle.bosh_server.proofs.PumpLemmas.{rows}
use Rattle.bosh_server.proofs.pumping.make_turns.Goals as goal

pub loop-init : goal.loop-init
loop-init g c = record { next = tt; finite = tt; pass = c.requires; row = no_call }

pub loop-preserved-then-not-is_behind : goal.loop-preserved-then-not-is_behind
loop-preserved-then-not-is_behind g c = record {
  next = tt;
  finite = tt;
  pass = subst (IsPassOf c.args.yard.now.directory) (sym c.note_given-found.ensures.directory) c.turn.ensures.pass;
  row = rows (rows c.loop.invariant.row c.turn.ensures.row) c.note_given-found.ensures.row;
}

pub loop-preserved : goal.loop-preserved
loop-preserved g c = record {
  next = tt;
  finite = tt;
  pass = subst (IsPassOf c.args.yard.now.directory) (sym c.note_given-found.ensures.directory) c.turn.ensures.pass;
  row = rows (rows c.loop.invariant.row c.turn.ensures.row) c.note_given-found.ensures.row;
}
