use Rattle.std.proofs.Common.{ap, false, subst, sym, true}
use Rattle.std.specs.Prelude.{Ok}
use Rattle.parked_gate.specs.Passes.{known}
use Rattle.client_run.specs.Handed.{Handed, is_write_whole}
use Rattle.client_run.specs.Handing.{out_of}
use Rattle.client_run.specs.declared.draining.Written.TheVariants as written
use Rattle.client_run.proofs.HandedLemmas.{falls_same, goes_queued, handed_both, handed_less, handed_then}
use Rattle.client_run.proofs.LingerLemmas.{lingers_failed, lingers_wanting, lingers_well, whole_then, whole_well}
use Rattle.client_run.proofs.OrderLemmas.{further_handed}
use Rattle.client_run.proofs.RanLemmas.{not_failed}
use Rattle.client_run.proofs.lingering.outlast.Goals as goal

pub returns-in-Ok-Done-clause-lingers : goal.returns-in-Ok-Done-clause-lingers
returns-in-Ok-Done-clause-lingers g c = λ input start reads later writes falls goes converses.
    lingers_well input start (known c.args.pass.now) (known c.await_ends.new.pass) reads later writes (g.K.Sink.faults c.args.sink.now) (g.K.Sink.faults c.await_ends.new.sink) c.args.talked c.requires.well converses (further_handed (is_write_whole c.await_ends.result) (out_of (known c.args.pass.now) (g.K.Sink.given c.args.sink.now)) (out_of (known c.await_ends.new.pass) (g.K.Sink.given c.await_ends.new.sink)) (g.K.Sink.faults c.args.sink.now) (g.K.Sink.faults c.await_ends.new.sink) c.await_ends.ensures.handed).begins c.await_ends.ensures.adds
    (c.in-Ok-Done.ensures.counts (λ is. not_failed (ap (λ w. Ok w) c.in-Ok-Done.field-0-is) is))

pub returns-in-Ok-WriteFault-clause-lingers : goal.returns-in-Ok-WriteFault-clause-lingers
returns-in-Ok-WriteFault-clause-lingers g c = λ input start reads later writes falls goes converses.
    lingers_failed input start (known c.args.pass.now) (known c.terminate.new.pass) reads later writes (g.K.Sink.faults c.args.sink.now) (g.K.Sink.faults c.await_ends.new.sink) c.args.talked (known c.await_ends.new.pass) c.terminate.result c.requires.well converses goes (further_handed (is_write_whole c.await_ends.result) (out_of (known c.args.pass.now) (g.K.Sink.given c.args.sink.now)) (out_of (known c.await_ends.new.pass) (g.K.Sink.given c.await_ends.new.sink)) (g.K.Sink.faults c.args.sink.now) (g.K.Sink.faults c.await_ends.new.sink) c.await_ends.ensures.handed)
    falls c.await_ends.ensures.faults (c.in-Ok-WriteFault.ensures.fault (ap (λ w. Ok w) c.in-Ok-WriteFault.field-0-is)) c.terminate.ensures.queues

pub returns-in-Err-clause-lingers : goal.returns-in-Err-clause-lingers
returns-in-Err-clause-lingers g c = λ input start reads later writes falls goes converses. lingers_wanting input start (known c.await_ends.new.pass) reads later writes (g.K.Sink.faults c.await_ends.new.sink) _

pub returns-in-Ok-Done-clause-written : goal.returns-in-Ok-Done-clause-written
returns-in-Ok-Done-clause-written g c = λ start faults falls before.
    subst (λ whole. Handed whole start (out_of (known c.await_ends.new.pass) (g.K.Sink.given c.await_ends.new.sink)) faults (g.K.Sink.faults c.await_ends.new.sink)) (sym (whole_then c.args.talked c.requires.well))
    (handed_both true start (out_of (known c.args.pass.now) (g.K.Sink.given c.args.sink.now)) (out_of (known c.await_ends.new.pass) (g.K.Sink.given c.await_ends.new.sink)) faults (g.K.Sink.faults c.args.sink.now) (g.K.Sink.faults c.await_ends.new.sink) falls c.await_ends.ensures.faults (subst (λ whole. Handed whole start (out_of (known c.args.pass.now) (g.K.Sink.given c.args.sink.now)) faults (g.K.Sink.faults c.args.sink.now)) (whole_well c.args.talked c.requires.well) before)
    (subst (λ w. Handed (is_write_whole (Ok w)) (out_of (known c.args.pass.now) (g.K.Sink.given c.args.sink.now)) (out_of (known c.await_ends.new.pass) (g.K.Sink.given c.await_ends.new.sink)) (g.K.Sink.faults c.args.sink.now) (g.K.Sink.faults c.await_ends.new.sink)) c.in-Ok-Done.field-0-is c.in-Ok-Done.ensures.handed))

pub returns-in-Ok-WriteFault-clause-written : goal.returns-in-Ok-WriteFault-clause-written
returns-in-Ok-WriteFault-clause-written g c = λ start faults falls before.
    handed_then false start (out_of (known c.await_ends.new.pass) (g.K.Sink.given c.await_ends.new.sink)) (known c.terminate.new.pass) faults (g.K.Sink.faults c.await_ends.new.sink) (g.K.Sink.faults c.await_ends.new.sink) (falls_same _)
    (handed_less (is_write_whole c.await_ends.result) _ _ _ _
    (handed_both (is_write_whole c.await_ends.result) start (out_of (known c.args.pass.now) (g.K.Sink.given c.args.sink.now)) (out_of (known c.await_ends.new.pass) (g.K.Sink.given c.await_ends.new.sink)) faults (g.K.Sink.faults c.args.sink.now) (g.K.Sink.faults c.await_ends.new.sink) falls c.await_ends.ensures.faults (subst (λ whole. Handed whole start (out_of (known c.args.pass.now) (g.K.Sink.given c.args.sink.now)) faults (g.K.Sink.faults c.args.sink.now)) (whole_well c.args.talked c.requires.well) before) c.await_ends.ensures.handed))
    (goes_queued (known c.await_ends.new.pass) (known c.terminate.new.pass) c.terminate.result c.terminate.ensures.queues)

pub returns-in-Err-clause-written : goal.returns-in-Err-clause-written
returns-in-Err-clause-written g c = λ start faults falls before.
    handed_less (is_write_whole c.await_ends.result) _ _ _ _
    (handed_both (is_write_whole c.await_ends.result) start (out_of (known c.args.pass.now) (g.K.Sink.given c.args.sink.now)) (out_of (known c.await_ends.new.pass) (g.K.Sink.given c.await_ends.new.sink)) faults (g.K.Sink.faults c.args.sink.now) (g.K.Sink.faults c.await_ends.new.sink) falls c.await_ends.ensures.faults (subst (λ whole. Handed whole start (out_of (known c.args.pass.now) (g.K.Sink.given c.args.sink.now)) faults (g.K.Sink.faults c.args.sink.now)) (whole_well c.args.talked c.requires.well) before) c.await_ends.ensures.handed)
