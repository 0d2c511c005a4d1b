use Rattle.std.proofs.Common.{◌∙◌, ap, subst}
use Rattle.std.specs.Prelude.{Ok}
use Rattle.parked_gate.specs.Passes.{known}
use Rattle.client_run.specs.Attending.{is_attend_whole}
use Rattle.client_run.specs.Handed.{Handed, is_write_whole}
use Rattle.client_run.specs.Handing.{out_of}
use Rattle.client_run.specs.Ran.{ConversesBy}
use Rattle.client_run.proofs.HandedLemmas.{handed_both, handed_less}
use Rattle.client_run.proofs.LingerLemmas.{lingers_bad, lingers_read, lingers_unwritten, lingers_wanting}
use Rattle.client_run.proofs.OrderLemmas.{further_handed}
use Rattle.client_run.proofs.lingering.linger.Goals as goal

pub returns-in-Err-clause-lingers : goal.returns-in-Err-clause-lingers
returns-in-Err-clause-lingers g c = λ input start reads later writes falls goes converses. lingers_wanting input start _ reads later writes _ _

pub returns-in-Err-clause-written : goal.returns-in-Err-clause-written
returns-in-Err-clause-written g c = λ start faults falls before. handed_less (is_attend_whole c.args.talked) _ _ _ _ before

pub returns-in-Done-clause-lingers : goal.returns-in-Done-clause-lingers
returns-in-Done-clause-lingers g c = λ input start reads later writes falls goes converses.
    c.outlast.ensures.lingers input start reads later writes falls goes (subst (ConversesBy input start (known c.args.pass.now) reads later writes (g.K.Sink.faults c.args.sink.now)) (c.in-Ok.is ∙ ap (λ t. Ok t) c.in-Done.is) converses)

pub returns-in-Done-clause-written : goal.returns-in-Done-clause-written
returns-in-Done-clause-written g c = λ start faults falls before.
    c.outlast.ensures.written start faults falls (subst (λ t. Handed (is_attend_whole t) start (out_of (known c.args.pass.now) (g.K.Sink.given c.args.sink.now)) faults (g.K.Sink.faults c.args.sink.now)) (c.in-Ok.is ∙ ap (λ t. Ok t) c.in-Done.is) before)

pub returns-in-Stuck-clause-lingers : goal.returns-in-Stuck-clause-lingers
returns-in-Stuck-clause-lingers g c = λ input start reads later writes falls goes converses.
    c.outlast-in-Stuck.ensures.lingers input start reads later writes falls goes (subst (ConversesBy input start (known c.args.pass.now) reads later writes (g.K.Sink.faults c.args.sink.now)) (c.in-Ok.is ∙ ap (λ t. Ok t) c.in-Stuck.is) converses)

pub returns-in-Stuck-clause-written : goal.returns-in-Stuck-clause-written
returns-in-Stuck-clause-written g c = λ start faults falls before.
    c.outlast-in-Stuck.ensures.written start faults falls (subst (λ t. Handed (is_attend_whole t) start (out_of (known c.args.pass.now) (g.K.Sink.given c.args.sink.now)) faults (g.K.Sink.faults c.args.sink.now)) (c.in-Ok.is ∙ ap (λ t. Ok t) c.in-Stuck.is) before)

pub returns-in-Bad-clause-lingers : goal.returns-in-Bad-clause-lingers
returns-in-Bad-clause-lingers g c = λ input start reads later writes falls goes converses.
    lingers_bad input start (known c.args.pass.now) (known c.await_ends.new.pass) reads later writes (g.K.Sink.faults c.args.sink.now) (g.K.Sink.faults c.await_ends.new.sink) c.in-Bad.line
    (subst (ConversesBy input start (known c.args.pass.now) reads later writes (g.K.Sink.faults c.args.sink.now)) (c.in-Ok.is ∙ ap (λ t. Ok t) c.in-Bad.is) converses) (further_handed (is_write_whole c.await_ends.result) (out_of (known c.args.pass.now) (g.K.Sink.given c.args.sink.now)) (out_of (known c.await_ends.new.pass) (g.K.Sink.given c.await_ends.new.sink)) (g.K.Sink.faults c.args.sink.now) (g.K.Sink.faults c.await_ends.new.sink) c.await_ends.ensures.handed)

pub returns-in-Bad-clause-written : goal.returns-in-Bad-clause-written
returns-in-Bad-clause-written g c = λ start faults falls before.
    handed_less (is_write_whole c.await_ends.result) _ _ _ _
    (handed_both (is_write_whole c.await_ends.result) start (out_of (known c.args.pass.now) (g.K.Sink.given c.args.sink.now)) (out_of (known c.await_ends.new.pass) (g.K.Sink.given c.await_ends.new.sink)) faults (g.K.Sink.faults c.args.sink.now) (g.K.Sink.faults c.await_ends.new.sink) falls c.await_ends.ensures.faults (subst (λ t. Handed (is_attend_whole t) start (out_of (known c.args.pass.now) (g.K.Sink.given c.args.sink.now)) faults (g.K.Sink.faults c.args.sink.now)) (c.in-Ok.is ∙ ap (λ t. Ok t) c.in-Bad.is) before) c.await_ends.ensures.handed)

pub returns-in-ReadFault-clause-lingers : goal.returns-in-ReadFault-clause-lingers
returns-in-ReadFault-clause-lingers g c = λ input start reads later writes falls goes converses.
    lingers_read input start (known c.args.pass.now) (known c.await_ends-in-ReadFault.new.pass) reads later writes (g.K.Sink.faults c.args.sink.now) (g.K.Sink.faults c.await_ends-in-ReadFault.new.sink)
    (subst (ConversesBy input start (known c.args.pass.now) reads later writes (g.K.Sink.faults c.args.sink.now)) (c.in-Ok.is ∙ ap (λ t. Ok t) c.in-ReadFault.is) converses) (further_handed (is_write_whole c.await_ends-in-ReadFault.result) (out_of (known c.args.pass.now) (g.K.Sink.given c.args.sink.now)) (out_of (known c.await_ends-in-ReadFault.new.pass) (g.K.Sink.given c.await_ends-in-ReadFault.new.sink)) (g.K.Sink.faults c.args.sink.now) (g.K.Sink.faults c.await_ends-in-ReadFault.new.sink) c.await_ends-in-ReadFault.ensures.handed)

pub returns-in-ReadFault-clause-written : goal.returns-in-ReadFault-clause-written
returns-in-ReadFault-clause-written g c = λ start faults falls before.
    handed_less (is_write_whole c.await_ends-in-ReadFault.result) _ _ _ _
    (handed_both (is_write_whole c.await_ends-in-ReadFault.result) start (out_of (known c.args.pass.now) (g.K.Sink.given c.args.sink.now)) (out_of (known c.await_ends-in-ReadFault.new.pass) (g.K.Sink.given c.await_ends-in-ReadFault.new.sink)) faults (g.K.Sink.faults c.args.sink.now) (g.K.Sink.faults c.await_ends-in-ReadFault.new.sink) falls c.await_ends-in-ReadFault.ensures.faults (subst (λ t. Handed (is_attend_whole t) start (out_of (known c.args.pass.now) (g.K.Sink.given c.args.sink.now)) faults (g.K.Sink.faults c.args.sink.now)) (c.in-Ok.is ∙ ap (λ t. Ok t) c.in-ReadFault.is) before) c.await_ends-in-ReadFault.ensures.handed)

pub returns-in-WriteFault-clause-lingers : goal.returns-in-WriteFault-clause-lingers
returns-in-WriteFault-clause-lingers g c = λ input start reads later writes falls goes converses.
    lingers_unwritten input start (known c.args.pass.now) reads later writes (g.K.Sink.faults c.args.sink.now) (subst (ConversesBy input start (known c.args.pass.now) reads later writes (g.K.Sink.faults c.args.sink.now)) (c.in-Ok.is ∙ ap (λ t. Ok t) c.in-WriteFault.is) converses)

pub returns-in-WriteFault-clause-written : goal.returns-in-WriteFault-clause-written
returns-in-WriteFault-clause-written g c = λ start faults falls before. handed_less (is_attend_whole c.args.talked) _ _ _ _ before
