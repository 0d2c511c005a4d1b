use Rattle.std.proofs.Common.{rules, arith, refl, true}
use Rattle.std.specs.Prelude.{Ok, Err}
use Rattle.parked_gate.specs.Passes.{known}
use Rattle.client_run.specs.Handed.{is_write_whole}
use Rattle.client_run.specs.Handing.{out_of}
use Rattle.client_run.specs.Adding.{is_hand_out}
use Rattle.client_run.proofs.AddingLemmas.{adds_both, adds_none}
use Rattle.client_run.proofs.AttendLemmas.{drained_on}
use Rattle.client_run.proofs.HandedLemmas.{drained, handed_less, handed_none, still}
use Rattle.client_run.proofs.lingering.await_ends.Goals as goal

pub loop-init : goal.loop-init
loop-init g c = record { next = tt; finite = tt; pass = search rules; counts = refl; adds = adds_none is_hand_out (known c.args.pass.now) (known c.args.pass.now) refl; handed = handed_none true _ _ _ _ (still (known c.args.pass.now)) refl }

pub returns-in-Ok-WriteFault-clause-adds : goal.returns-in-Ok-WriteFault-clause-adds
returns-in-Ok-WriteFault-clause-adds g c = adds_both is_hand_out (known c.args.pass.now) (known c.loop.pass) (known c.drain.new.pass) c.loop.invariant.adds c.drain.ensures.adds

pub returns-in-Ok-WriteFault-clause-handed : goal.returns-in-Ok-WriteFault-clause-handed
returns-in-Ok-WriteFault-clause-handed g c =
    handed_less (is_write_whole c.drain.result) _ _ _ _ (drained (out_of (known c.args.pass.now) (g.K.Sink.given c.args.sink.now)) (out_of (known c.loop.pass) (g.K.Sink.given c.loop.sink)) (out_of (known c.drain.new.pass) (g.K.Sink.given c.drain.new.sink)) (g.K.Sink.faults c.args.sink.now) (g.K.Sink.faults c.loop.sink) (g.K.Sink.faults c.drain.new.sink) c.drain.result (omega (arith, c.loop.invariant.counts)) c.drain.ensures.faults c.loop.invariant.handed c.drain.ensures.drains c.drain.ensures.fault)

pub returns-in-Err-clause-adds : goal.returns-in-Err-clause-adds
returns-in-Err-clause-adds g c = adds_both is_hand_out (known c.args.pass.now) (known c.loop.pass) (known c.drain.new.pass) c.loop.invariant.adds c.drain.ensures.adds

pub returns-in-Err-clause-handed : goal.returns-in-Err-clause-handed
returns-in-Err-clause-handed g c =
    drained (out_of (known c.args.pass.now) (g.K.Sink.given c.args.sink.now)) (out_of (known c.loop.pass) (g.K.Sink.given c.loop.sink)) (out_of (known c.drain.new.pass) (g.K.Sink.given c.drain.new.sink)) (g.K.Sink.faults c.args.sink.now) (g.K.Sink.faults c.loop.sink) (g.K.Sink.faults c.drain.new.sink) (Err c.in-Err.field-0) (omega (arith, c.loop.invariant.counts)) c.drain.ensures.faults c.loop.invariant.handed c.in-Err.ensures.drains c.in-Err.ensures.fault

pub returns-then-have_ended-clause-adds : goal.returns-then-have_ended-clause-adds
returns-then-have_ended-clause-adds g c = adds_both is_hand_out (known c.args.pass.now) (known c.loop.pass) (known c.drain.new.pass) c.loop.invariant.adds c.drain.ensures.adds

pub returns-then-have_ended-clause-handed : goal.returns-then-have_ended-clause-handed
returns-then-have_ended-clause-handed g c =
    drained_on (out_of (known c.args.pass.now) (g.K.Sink.given c.args.sink.now)) (out_of (known c.loop.pass) (g.K.Sink.given c.loop.sink)) (out_of (known c.drain.new.pass) (g.K.Sink.given c.drain.new.sink)) (g.K.Sink.faults c.args.sink.now) (g.K.Sink.faults c.loop.sink) (g.K.Sink.faults c.drain.new.sink) c.in-Ok-Done.field-0 (omega (arith, c.loop.invariant.counts)) c.drain.ensures.faults c.loop.invariant.handed c.in-Ok-Done.field-0-is c.in-Ok-Done.ensures.drains

pub loop-preserved : goal.loop-preserved
loop-preserved g c = record {
  next = tt;
  finite = tt;
  pass = search rules;
  counts = search rules;
  adds = adds_both is_hand_out (known c.args.pass.now) (known c.loop.pass) (known c.drain.new.pass) c.loop.invariant.adds c.drain.ensures.adds;
  handed = drained_on (out_of (known c.args.pass.now) (g.K.Sink.given c.args.sink.now)) (out_of (known c.loop.pass) (g.K.Sink.given c.loop.sink)) (out_of (known c.drain.new.pass) (g.K.Sink.given c.drain.new.sink)) (g.K.Sink.faults c.args.sink.now) (g.K.Sink.faults c.loop.sink) (g.K.Sink.faults c.drain.new.sink) c.in-Ok-Done.field-0 (omega (arith, c.loop.invariant.counts)) c.drain.ensures.faults c.loop.invariant.handed c.in-Ok-Done.field-0-is c.in-Ok-Done.ensures.drains;
}
