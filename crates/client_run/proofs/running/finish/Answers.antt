use Rattle.std.proofs.Common.{◌∙◌, ap, refl, subst}
use Rattle.std.specs.Prelude.{Ok}
use Rattle.parked_gate.specs.Passes.{known}
use Rattle.client_run.specs.declared.attending.Attended.TheVariants as attended
use Rattle.client_run.proofs.RanLemmas.{finish_as, finish_failed, finish_read, finish_wanting, finish_written}
use Rattle.client_run.specs.Handing.{out_of}
use Rattle.client_run.specs.Lingering.{is_linger_whole}
use Rattle.client_run.specs.Handed.{Handed}
use Rattle.client_run.proofs.HandedLemmas.{handed_less}
use Rattle.client_run.proofs.running.finish.Goals as goal

pub returns-in-Err-clause-finishes : goal.returns-in-Err-clause-finishes
returns-in-Err-clause-finishes g c = finish_wanting _ _ _ _ _ _ _

pub returns-in-Done-clause-finishes : goal.returns-in-Done-clause-finishes
returns-in-Done-clause-finishes g c =
    finish_as c.args.talked (Ok attended.Done) c.args.gathered (known c.args.pass.now) (known c.end.new.pass) (g.K.Sink.faults c.args.sink.now) (g.K.Sink.faults c.end.new.sink) c.end.result (c.in-Ok.is ∙ ap (λ t. Ok t) c.in-Done.is) c.end.ensures.finishes

pub returns-in-Stuck-clause-finishes : goal.returns-in-Stuck-clause-finishes
returns-in-Stuck-clause-finishes g c =
    finish_as c.args.talked (Ok attended.Stuck) c.args.gathered (known c.args.pass.now) (known c.end-in-Stuck.new.pass) (g.K.Sink.faults c.args.sink.now) (g.K.Sink.faults c.end-in-Stuck.new.sink) c.end-in-Stuck.result (c.in-Ok.is ∙ ap (λ t. Ok t) c.in-Stuck.is) c.end-in-Stuck.ensures.finishes

pub returns-in-Bad-clause-finishes : goal.returns-in-Bad-clause-finishes
returns-in-Bad-clause-finishes g c = finish_failed c.args.talked _ _ _ _ _ c.in-Bad.line (c.in-Ok.is ∙ ap (λ t. Ok t) c.in-Bad.is)

pub returns-in-ReadFault-clause-finishes : goal.returns-in-ReadFault-clause-finishes
returns-in-ReadFault-clause-finishes g c = finish_read c.args.talked _ _ _ _ _ (c.in-Ok.is ∙ ap (λ t. Ok t) c.in-ReadFault.is)

pub returns-in-WriteFault-clause-finishes : goal.returns-in-WriteFault-clause-finishes
returns-in-WriteFault-clause-finishes g c = finish_written c.args.talked _ _ _ _ _ (c.in-Ok.is ∙ ap (λ t. Ok t) c.in-WriteFault.is) refl

pub returns-in-Err-clause-written : goal.returns-in-Err-clause-written
returns-in-Err-clause-written g c = λ start faults falls before. handed_less (is_linger_whole c.args.talked) _ _ _ _ before

pub returns-in-WriteFault-clause-written : goal.returns-in-WriteFault-clause-written
returns-in-WriteFault-clause-written g c = λ start faults falls before. handed_less (is_linger_whole c.args.talked) _ _ _ _ before

pub returns-in-Done-clause-written : goal.returns-in-Done-clause-written
returns-in-Done-clause-written g c = λ start faults falls before.
    c.end.ensures.written start faults falls
    (subst (λ t. Handed (is_linger_whole t) start (out_of (known c.args.pass.now) (g.K.Sink.given c.args.sink.now)) faults (g.K.Sink.faults c.args.sink.now)) (c.in-Ok.is ∙ ap (λ t. Ok t) c.in-Done.is) before)

pub returns-in-Stuck-clause-written : goal.returns-in-Stuck-clause-written
returns-in-Stuck-clause-written g c = λ start faults falls before.
    c.end-in-Stuck.ensures.written start faults falls
    (subst (λ t. Handed (is_linger_whole t) start (out_of (known c.args.pass.now) (g.K.Sink.given c.args.sink.now)) faults (g.K.Sink.faults c.args.sink.now)) (c.in-Ok.is ∙ ap (λ t. Ok t) c.in-Stuck.is) before)

pub returns-in-Bad-clause-written : goal.returns-in-Bad-clause-written
returns-in-Bad-clause-written g c = λ start faults falls before. handed_less (is_linger_whole c.args.talked) _ _ _ _ before

pub returns-in-ReadFault-clause-written : goal.returns-in-ReadFault-clause-written
returns-in-ReadFault-clause-written g c = λ start faults falls before. handed_less (is_linger_whole c.args.talked) _ _ _ _ before
