use Rattle.std.proofs.Common.{rules, arith, refl, true}
use Rattle.std.specs.Prelude.{Ok, Err}
use Rattle.parked_gate.specs.Passes.{known}
use Rattle.client_run.specs.Handed.{is_write_whole}
use Rattle.client_run.specs.Handing.{out_of}
use Rattle.client_run.proofs.AttendLemmas.{drained_on, said_drained, said_nothing}
use Rattle.client_run.proofs.HandedLemmas.{drained, handed_less, handed_none, still}
use Rattle.client_run.proofs.attending.await_input.Goals as goal

pub loop-init : goal.loop-init
loop-init g c = record { next = tt; finite = tt; pass = search rules; counts = refl; said = said_nothing (known c.args.pass.now); handed = handed_none true _ _ _ _ (still (known c.args.pass.now)) refl }

pub returns-in-Ok-WriteFault-clause-said : goal.returns-in-Ok-WriteFault-clause-said
returns-in-Ok-WriteFault-clause-said g c = said_drained (known c.args.pass.now) (out_of (known c.loop.pass) (g.K.Sink.given c.loop.sink)) (out_of (known c.drain.new.pass) (g.K.Sink.given c.drain.new.sink)) c.drain.result c.loop.invariant.said c.drain.ensures.drains

pub returns-in-Ok-WriteFault-clause-handed : goal.returns-in-Ok-WriteFault-clause-handed
returns-in-Ok-WriteFault-clause-handed g c =
    handed_less (is_write_whole c.drain.result) _ _ _ _ (drained (out_of (known c.args.pass.now) (g.K.Sink.given c.args.sink.now)) (out_of (known c.loop.pass) (g.K.Sink.given c.loop.sink)) (out_of (known c.drain.new.pass) (g.K.Sink.given c.drain.new.sink)) (g.K.Sink.faults c.args.sink.now) (g.K.Sink.faults c.loop.sink) (g.K.Sink.faults c.drain.new.sink) c.drain.result (omega (arith, c.loop.invariant.counts)) c.drain.ensures.faults c.loop.invariant.handed c.drain.ensures.drains c.drain.ensures.fault)

pub returns-in-Err-clause-said : goal.returns-in-Err-clause-said
returns-in-Err-clause-said g c = said_drained (known c.args.pass.now) (out_of (known c.loop.pass) (g.K.Sink.given c.loop.sink)) (out_of (known c.drain.new.pass) (g.K.Sink.given c.drain.new.sink)) c.drain.result c.loop.invariant.said c.drain.ensures.drains

pub returns-in-Err-clause-handed : goal.returns-in-Err-clause-handed
returns-in-Err-clause-handed g c =
    drained (out_of (known c.args.pass.now) (g.K.Sink.given c.args.sink.now)) (out_of (known c.loop.pass) (g.K.Sink.given c.loop.sink)) (out_of (known c.drain.new.pass) (g.K.Sink.given c.drain.new.sink)) (g.K.Sink.faults c.args.sink.now) (g.K.Sink.faults c.loop.sink) (g.K.Sink.faults c.drain.new.sink) (Err c.in-Err.field-0) (omega (arith, c.loop.invariant.counts)) c.drain.ensures.faults c.loop.invariant.handed c.in-Err.ensures.drains c.in-Err.ensures.fault

pub returns-then-is_ready-clause-said : goal.returns-then-is_ready-clause-said
returns-then-is_ready-clause-said g c = said_drained (known c.args.pass.now) (out_of (known c.loop.pass) (g.K.Sink.given c.loop.sink)) (out_of (known c.drain.new.pass) (g.K.Sink.given c.drain.new.sink)) c.drain.result c.loop.invariant.said c.drain.ensures.drains

pub returns-then-is_ready-clause-handed : goal.returns-then-is_ready-clause-handed
returns-then-is_ready-clause-handed g c =
    drained_on (out_of (known c.args.pass.now) (g.K.Sink.given c.args.sink.now)) (out_of (known c.loop.pass) (g.K.Sink.given c.loop.sink)) (out_of (known c.drain.new.pass) (g.K.Sink.given c.drain.new.sink)) (g.K.Sink.faults c.args.sink.now) (g.K.Sink.faults c.loop.sink) (g.K.Sink.faults c.drain.new.sink) c.in-Ok-Done.field-0 (omega (arith, c.loop.invariant.counts)) c.drain.ensures.faults c.loop.invariant.handed c.in-Ok-Done.field-0-is c.in-Ok-Done.ensures.drains

pub loop-preserved : goal.loop-preserved
loop-preserved g c = record {
  next = tt;
  finite = tt;
  pass = search rules;
  counts = search rules;
  said = said_drained (known c.args.pass.now) (out_of (known c.loop.pass) (g.K.Sink.given c.loop.sink)) (out_of (known c.drain.new.pass) (g.K.Sink.given c.drain.new.sink)) c.drain.result c.loop.invariant.said c.drain.ensures.drains;
  handed = drained_on (out_of (known c.args.pass.now) (g.K.Sink.given c.args.sink.now)) (out_of (known c.loop.pass) (g.K.Sink.given c.loop.sink)) (out_of (known c.drain.new.pass) (g.K.Sink.given c.drain.new.sink)) (g.K.Sink.faults c.args.sink.now) (g.K.Sink.faults c.loop.sink) (g.K.Sink.faults c.drain.new.sink) c.in-Ok-Done.field-0 (omega (arith, c.loop.invariant.counts)) c.drain.ensures.faults c.loop.invariant.handed c.in-Ok-Done.field-0-is c.in-Ok-Done.ensures.drains;
}
