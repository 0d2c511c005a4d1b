use Rattle.std.proofs.Common.{arith, subst, sym, true}
use Rattle.std.specs.Prelude.{IsTrue, Ok}
use Rattle.std.specs.Io.KnownBytes.{prepend_known}
use Rattle.body_cutter.specs.Cutting.{is_stanza}
use Rattle.parked_gate.specs.Passes.{known}
use Rattle.client_run.specs.Attending.{HoldsBy, TurnedBy}
use Rattle.client_run.specs.Handed.{Handed, is_write_whole}
use Rattle.client_run.specs.Handing.{out_of}
use Rattle.client_run.specs.Talking.{Takes}
use Rattle.client_run.proofs.AttendLemmas.{turned_bad, turned_closed, turned_failed, turned_handed, turned_held, turned_more, turned_unwritten, turned_wanting}
use Rattle.client_run.proofs.HandedLemmas.{falls_same, goes_queued, handed_both, handed_then}
use Rattle.client_run.proofs.OrderLemmas.{further_handed}
use Rattle.client_run.proofs.TurnLemmas.{takes_stanza}
use Rattle.client_run.proofs.attending.turn.Goals as goal

pub returns-in-Ok-WriteFault-clause-turns : goal.returns-in-Ok-WriteFault-clause-turns
returns-in-Ok-WriteFault-clause-turns g c = turned_unwritten c.args.line (known c.args.pass.now) (known c.await_input.new.pass) (known c.await_input.new.pass) _ _ c.await_input.ensures.said

pub returns-in-Err-clause-turns : goal.returns-in-Err-clause-turns
returns-in-Err-clause-turns g c = turned_wanting c.args.line (known c.args.pass.now) (known c.await_input.new.pass) (known c.await_input.new.pass) _ _ c.await_input.ensures.said _

pub returns-in-Err-ReadFault-clause-turns : goal.returns-in-Err-ReadFault-clause-turns
returns-in-Err-ReadFault-clause-turns g c = turned_failed c.args.line (known c.args.pass.now) (known c.await_input.new.pass) (known c.await_input.new.pass) _ _ c.await_input.ensures.said

pub returns-in-Err-NoMemory-clause-turns : goal.returns-in-Err-NoMemory-clause-turns
returns-in-Err-NoMemory-clause-turns g c = turned_wanting c.args.line (known c.args.pass.now) (known c.await_input.new.pass) (known c.await_input.new.pass) _ _ c.await_input.ensures.said _

pub returns-in-Other-clause-turns : goal.returns-in-Other-clause-turns
returns-in-Other-clause-turns g c = turned_bad c.args.line (known c.args.pass.now) (known c.await_input.new.pass) (known c.await_input.new.pass) (prepend_known c.args.reader.now (g.S.Source.left c.args.source.now)) (prepend_known c.next_input.new.reader (g.S.Source.left c.next_input.new.source)) c.await_input.ensures.said (subst (λ input. Takes (prepend_known c.args.reader.now (g.S.Source.left c.args.source.now)) (prepend_known c.next_input.new.reader (g.S.Source.left c.next_input.new.source)) input) c.in-Other.is c.in-Ok.ensures.takes)

pub returns-in-Ok-terminate-clause-turns : goal.returns-in-Ok-terminate-clause-turns
returns-in-Ok-terminate-clause-turns g c = turned_closed c.args.line (known c.args.pass.now) (known c.await_input.new.pass) (known c.terminate.new.pass) (prepend_known c.args.reader.now (g.S.Source.left c.args.source.now)) (prepend_known c.next_input.new.reader (g.S.Source.left c.next_input.new.source)) c.await_input.ensures.said _ (subst (λ input. Takes (prepend_known c.args.reader.now (g.S.Source.left c.args.source.now)) (prepend_known c.next_input.new.reader (g.S.Source.left c.next_input.new.source)) input) c.in-End.is c.in-Ok.ensures.takes) c.in-Ok-terminate.ensures.queues

pub returns-in-Ok-terminate-clause-handed : goal.returns-in-Ok-terminate-clause-handed
returns-in-Ok-terminate-clause-handed g c = handed_then true (out_of (known c.args.pass.now) (g.K.Sink.given c.args.sink.now)) (out_of (known c.await_input.new.pass) (g.K.Sink.given c.await_input.new.sink)) (known c.terminate.new.pass) (g.K.Sink.faults c.args.sink.now) (g.K.Sink.faults c.await_input.new.sink) (g.K.Sink.faults c.await_input.new.sink) (falls_same _) (subst (λ w. Handed (is_write_whole (Ok w)) (out_of (known c.args.pass.now) (g.K.Sink.given c.args.sink.now)) (out_of (known c.await_input.new.pass) (g.K.Sink.given c.await_input.new.sink)) (g.K.Sink.faults c.args.sink.now) (g.K.Sink.faults c.await_input.new.sink)) c.in-Ok-Done.field-0-is c.in-Ok-Done.ensures.handed) (goes_queued (known c.await_input.new.pass) (known c.terminate.new.pass) c.terminate.result c.terminate.ensures.queues)

pub returns-in-Err-terminate-clause-turns : goal.returns-in-Err-terminate-clause-turns
returns-in-Err-terminate-clause-turns g c = turned_wanting c.args.line (known c.args.pass.now) (known c.await_input.new.pass) (known c.terminate.new.pass) _ _ c.await_input.ensures.said _

pub returns-in-Err-terminate-clause-handed : goal.returns-in-Err-terminate-clause-handed
returns-in-Err-terminate-clause-handed g c = handed_then true (out_of (known c.args.pass.now) (g.K.Sink.given c.args.sink.now)) (out_of (known c.await_input.new.pass) (g.K.Sink.given c.await_input.new.sink)) (known c.terminate.new.pass) (g.K.Sink.faults c.args.sink.now) (g.K.Sink.faults c.await_input.new.sink) (g.K.Sink.faults c.await_input.new.sink) (falls_same _) (subst (λ w. Handed (is_write_whole (Ok w)) (out_of (known c.args.pass.now) (g.K.Sink.given c.args.sink.now)) (out_of (known c.await_input.new.pass) (g.K.Sink.given c.await_input.new.sink)) (g.K.Sink.faults c.args.sink.now) (g.K.Sink.faults c.await_input.new.sink)) c.in-Ok-Done.field-0-is c.in-Ok-Done.ensures.handed) (goes_queued (known c.await_input.new.pass) (known c.terminate.new.pass) c.terminate.result c.terminate.ensures.queues)

pub returns-then-line-gt-MOST_LINES-clause-turns : goal.returns-then-line-gt-MOST_LINES-clause-turns
returns-then-line-gt-MOST_LINES-clause-turns g c = turned_more c.args.line (known c.args.pass.now) (known c.await_input.new.pass) (known c.await_input.new.pass) (prepend_known c.args.reader.now (g.S.Source.left c.args.source.now)) (prepend_known c.next_input.new.reader (g.S.Source.left c.next_input.new.source)) c.await_input.ensures.said c.in-Stanza.stanza (subst (λ input. Takes (prepend_known c.args.reader.now (g.S.Source.left c.args.source.now)) (prepend_known c.next_input.new.reader (g.S.Source.left c.next_input.new.source)) input) c.in-Stanza.is c.in-Ok.ensures.takes) (omega (arith, c.if-line-gt-MOST_LINES.true))

pub hold-requires-clause-stanza : goal.hold-requires-clause-stanza
hold-requires-clause-stanza g c = subst (λ s. IsTrue (is_stanza s)) (sym c.as_slice.ensures) (takes_stanza (prepend_known c.args.reader.now (g.S.Source.left c.args.source.now)) (prepend_known c.next_input.new.reader (g.S.Source.left c.next_input.new.source)) c.in-Stanza.stanza (subst (λ input. Takes (prepend_known c.args.reader.now (g.S.Source.left c.args.source.now)) (prepend_known c.next_input.new.reader (g.S.Source.left c.next_input.new.source)) input) c.in-Stanza.is c.in-Ok.ensures.takes))

pub returns-in-Ok-hold-clause-turns : goal.returns-in-Ok-hold-clause-turns
returns-in-Ok-hold-clause-turns g c =
    subst (λ e. TurnedBy c.args.line (known c.args.pass.now) (known c.hold.new.pass) (prepend_known c.args.reader.now (g.S.Source.left c.args.source.now)) (prepend_known c.next_input.new.reader (g.S.Source.left c.next_input.new.source)) (Ok e)) (sym c.ended_by.ensures)
    (turned_held c.args.line (known c.args.pass.now) (known c.await_input.new.pass) (known c.hold.new.pass) (prepend_known c.args.reader.now (g.S.Source.left c.args.source.now)) (prepend_known c.next_input.new.reader (g.S.Source.left c.next_input.new.source)) c.await_input.ensures.said c.in-Stanza.stanza (subst (λ input. Takes (prepend_known c.args.reader.now (g.S.Source.left c.args.source.now)) (prepend_known c.next_input.new.reader (g.S.Source.left c.next_input.new.source)) input) c.in-Stanza.is c.in-Ok.ensures.takes)
    (λ more. omega (arith, more, c.if-line-gt-MOST_LINES.false)) (further_handed (is_write_whole c.await_input.result) (out_of (known c.args.pass.now) (g.K.Sink.given c.args.sink.now)) (out_of (known c.await_input.new.pass) (g.K.Sink.given c.await_input.new.sink)) (g.K.Sink.faults c.args.sink.now) (g.K.Sink.faults c.await_input.new.sink) c.await_input.ensures.handed).begins
    c.in-Ok-hold.held (subst (λ s. HoldsBy s (known c.await_input.new.pass) (known c.hold.new.pass) (Ok c.in-Ok-hold.held)) c.as_slice.ensures c.in-Ok-hold.ensures.holds))

pub returns-in-Ok-hold-clause-handed : goal.returns-in-Ok-hold-clause-handed
returns-in-Ok-hold-clause-handed g c =
    turned_handed (out_of (known c.args.pass.now) (g.K.Sink.given c.args.sink.now)) (out_of (known c.hold.new.pass) (g.K.Sink.given c.hold.new.sink)) (g.K.Sink.faults c.args.sink.now) (g.K.Sink.faults c.hold.new.sink) c.in-Ok-hold.held c.ended_by.result c.ended_by.ensures
    (handed_both _ (out_of (known c.args.pass.now) (g.K.Sink.given c.args.sink.now)) (out_of (known c.await_input.new.pass) (g.K.Sink.given c.await_input.new.sink)) (out_of (known c.hold.new.pass) (g.K.Sink.given c.hold.new.sink)) (g.K.Sink.faults c.args.sink.now) (g.K.Sink.faults c.await_input.new.sink) (g.K.Sink.faults c.hold.new.sink) c.await_input.ensures.faults c.hold.ensures.faults (subst (λ w. Handed (is_write_whole (Ok w)) (out_of (known c.args.pass.now) (g.K.Sink.given c.args.sink.now)) (out_of (known c.await_input.new.pass) (g.K.Sink.given c.await_input.new.sink)) (g.K.Sink.faults c.args.sink.now) (g.K.Sink.faults c.await_input.new.sink)) c.in-Ok-Done.field-0-is c.in-Ok-Done.ensures.handed) c.in-Ok-hold.ensures.handed)

pub returns-clause-turns : goal.returns-clause-turns
returns-clause-turns g c = turned_wanting c.args.line (known c.args.pass.now) (known c.await_input.new.pass) (known c.hold.new.pass) _ _ c.await_input.ensures.said _

pub returns-clause-handed : goal.returns-clause-handed
returns-clause-handed g c = handed_both _ (out_of (known c.args.pass.now) (g.K.Sink.given c.args.sink.now)) (out_of (known c.await_input.new.pass) (g.K.Sink.given c.await_input.new.sink)) (out_of (known c.hold.new.pass) (g.K.Sink.given c.hold.new.sink)) (g.K.Sink.faults c.args.sink.now) (g.K.Sink.faults c.await_input.new.sink) (g.K.Sink.faults c.hold.new.sink) c.await_input.ensures.faults c.hold.ensures.faults (subst (λ w. Handed (is_write_whole (Ok w)) (out_of (known c.args.pass.now) (g.K.Sink.given c.args.sink.now)) (out_of (known c.await_input.new.pass) (g.K.Sink.given c.await_input.new.sink)) (g.K.Sink.faults c.args.sink.now) (g.K.Sink.faults c.await_input.new.sink)) c.in-Ok-Done.field-0-is c.in-Ok-Done.ensures.handed) c.in-Err-hold.ensures.handed
