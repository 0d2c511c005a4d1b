use Rattle.std.proofs.Common.{refl, sym, ◌∙◌, ap}
use Rattle.std.specs.Prelude.{Ok}
use Rattle.parked_gate.specs.Passes.{known}
use Rattle.client_run.specs.Attending.{is_attend_whole}
use Rattle.client_run.specs.Handing.{out_of}
use Rattle.client_run.proofs.RanLemmas.{conversed, conversed_not, no_true}
use Rattle.client_run.proofs.HandedLemmas.{falls_same, goes_queued, handed_then}
use Rattle.client_run.proofs.OrderLemmas.{asks_last, further_handed}
use Rattle.client_run.proofs.running.converse.Goals as goal

pub returns-in-Err-clause-converses : goal.returns-in-Err-clause-converses
returns-in-Err-clause-converses g c =
    conversed_not _ _ _ _ _ _ _ _
    (asks_last (known c.args.pass.now) (known c.attend.new.pass) (known c.terminate.new.pass) c.terminate.result (further_handed (is_attend_whole c.attend.result) (out_of (known c.args.pass.now) (g.K.Sink.given c.args.sink.now)) (out_of (known c.attend.new.pass) (g.K.Sink.given c.attend.new.sink)) (g.K.Sink.faults c.args.sink.now) (g.K.Sink.faults c.attend.new.sink) c.attend.ensures.handed) c.terminate.ensures.queues)

pub returns-then-is_done-clause-converses : goal.returns-then-is_done-clause-converses
returns-then-is_done-clause-converses g c =
    conversed (g.S.Source.left c.args.source.now) (known c.args.pass.now) (known c.attend.new.pass) (known c.attend.new.pass) (g.S.Source.faults c.args.source.now) (g.S.Source.faults c.attend.new.source) (g.K.Sink.faults c.args.sink.now) (g.K.Sink.faults c.attend.new.sink)
    c.in-Ok.talked (λ is. refl) c.in-Ok.ensures.attends (λ is. c.in-Ok.ensures.read_fault (ap (λ t. Ok t) is)) (λ is. c.in-Ok.ensures.write_fault (ap (λ t. Ok t) is))
    c.in-Ok.ensures.no_read_fault c.in-Ok.ensures.no_write_fault (λ off. no_true _ off (sym c.is_done.ensures ∙ c.if-is_done.true))

pub returns-clause-converses : goal.returns-clause-converses
returns-clause-converses g c =
    conversed (g.S.Source.left c.args.source.now) (known c.args.pass.now) (known c.attend.new.pass) (known c.terminate-2.new.pass) (g.S.Source.faults c.args.source.now) (g.S.Source.faults c.attend.new.source) (g.K.Sink.faults c.args.sink.now) (g.K.Sink.faults c.attend.new.sink)
    c.in-Ok.talked (no_true _ (sym c.is_done.ensures ∙ c.if-is_done.false)) c.in-Ok.ensures.attends (λ is. c.in-Ok.ensures.read_fault (ap (λ t. Ok t) is)) (λ is. c.in-Ok.ensures.write_fault (ap (λ t. Ok t) is))
    c.in-Ok.ensures.no_read_fault c.in-Ok.ensures.no_write_fault
    (λ off. asks_last (known c.args.pass.now) (known c.attend.new.pass) (known c.terminate-2.new.pass) c.terminate-2.result (further_handed (is_attend_whole c.attend.result) (out_of (known c.args.pass.now) (g.K.Sink.given c.args.sink.now)) (out_of (known c.attend.new.pass) (g.K.Sink.given c.attend.new.sink)) (g.K.Sink.faults c.args.sink.now) (g.K.Sink.faults c.attend.new.sink) c.attend.ensures.handed) c.terminate-2.ensures.queues)

pub returns-in-Err-clause-written : goal.returns-in-Err-clause-written
returns-in-Err-clause-written g c =
    handed_then _ (out_of (known c.args.pass.now) (g.K.Sink.given c.args.sink.now)) (out_of (known c.attend.new.pass) (g.K.Sink.given c.attend.new.sink)) (known c.terminate.new.pass) (g.K.Sink.faults c.args.sink.now) (g.K.Sink.faults c.attend.new.sink) (g.K.Sink.faults c.attend.new.sink) (falls_same _) c.in-Err.ensures.handed
    (goes_queued (known c.attend.new.pass) (known c.terminate.new.pass) _ c.terminate.ensures.queues)

pub returns-then-is_done-clause-written : goal.returns-then-is_done-clause-written
returns-then-is_done-clause-written g c = c.in-Ok.ensures.handed

pub returns-clause-written : goal.returns-clause-written
returns-clause-written g c =
    handed_then _ (out_of (known c.args.pass.now) (g.K.Sink.given c.args.sink.now)) (out_of (known c.attend.new.pass) (g.K.Sink.given c.attend.new.sink)) (known c.terminate-2.new.pass) (g.K.Sink.faults c.args.sink.now) (g.K.Sink.faults c.attend.new.sink) (g.K.Sink.faults c.attend.new.sink) (falls_same _) c.in-Ok.ensures.handed
    (goes_queued (known c.attend.new.pass) (known c.terminate-2.new.pass) _ c.terminate-2.ensures.queues)
