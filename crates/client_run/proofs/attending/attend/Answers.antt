use Rattle.std.proofs.Common.{rules, ◌+◌, arith, refl, subst, true}
use Rattle.std.specs.Prelude.{Ok}
use Rattle.std.specs.Io.KnownBytes.{prepend_known}
use Rattle.parked_gate.specs.Passes.{known}
use Rattle.client_run.specs.Attending.{TurnedBy, is_turn_whole}
use Rattle.client_run.specs.Handed.{Handed}
use Rattle.client_run.specs.Handing.{out_of}
use Rattle.client_run.proofs.AttendLemmas.{attended_few, attended_more, attended_none, attends_ended, attends_wanting}
use Rattle.client_run.proofs.HandedLemmas.{handed_both, handed_none, still}
use Rattle.client_run.proofs.OrderLemmas.{further_handed}
use Rattle.client_run.proofs.attending.attend.Goals as goal

pub returns-in-Err-clause-attends : goal.returns-in-Err-clause-attends
returns-in-Err-clause-attends g c = attends_wanting (g.S.Source.left c.args.source.now) (known c.args.pass.now) (known c.args.pass.now) _

pub returns-in-Err-clause-handed : goal.returns-in-Err-clause-handed
returns-in-Err-clause-handed g c = handed_none true _ _ _ _ (still (known c.args.pass.now)) refl

pub loop-init : goal.loop-init
loop-init g c = record {
  next = tt;
  finite = tt;
  pass = search rules;
  few = omega arith;
  source = refl;
  sink = refl;
  attended = attended_none (known c.args.pass.now) (g.S.Source.left c.args.source.now) _ c.in-Ok.ensures;
  handed = handed_none true _ _ _ _ (still (known c.args.pass.now)) refl;
}

pub loop-preserved : goal.loop-preserved
loop-preserved g c = record {
  next = tt;
  finite = tt;
  pass = search rules;
  few = attended_few (known c.args.pass.now) (g.S.Source.left c.args.source.now) (known c.loop.pass) (known c.turn.new.pass) (prepend_known c.loop.reader (g.S.Source.left c.loop.source)) (prepend_known c.turn.new.reader (g.S.Source.left c.turn.new.source)) c.loop.lines c.loop.invariant.attended c.loop.invariant.few (subst (λ e. TurnedBy (c.loop.lines + 1) (known c.loop.pass) (known c.turn.new.pass) (prepend_known c.loop.reader (g.S.Source.left c.loop.source)) (prepend_known c.turn.new.reader (g.S.Source.left c.turn.new.source)) (Ok e)) c.in-Ok-None.field-0-is c.in-Ok-None.ensures.turns);
  source = search rules;
  sink = search rules;
  attended = attended_more (known c.args.pass.now) (g.S.Source.left c.args.source.now) (known c.loop.pass) (known c.turn.new.pass) (prepend_known c.loop.reader (g.S.Source.left c.loop.source)) (prepend_known c.turn.new.reader (g.S.Source.left c.turn.new.source)) c.loop.lines c.loop.invariant.attended c.loop.invariant.few (subst (λ e. TurnedBy (c.loop.lines + 1) (known c.loop.pass) (known c.turn.new.pass) (prepend_known c.loop.reader (g.S.Source.left c.loop.source)) (prepend_known c.turn.new.reader (g.S.Source.left c.turn.new.source)) (Ok e)) c.in-Ok-None.field-0-is c.in-Ok-None.ensures.turns);
  handed = handed_both true (out_of (known c.args.pass.now) (g.K.Sink.given c.args.sink.now)) (out_of (known c.loop.pass) (g.K.Sink.given c.loop.sink)) (out_of (known c.turn.new.pass) (g.K.Sink.given c.turn.new.sink)) (g.K.Sink.faults c.args.sink.now) (g.K.Sink.faults c.loop.sink) (g.K.Sink.faults c.turn.new.sink) (omega (arith, c.loop.invariant.sink)) c.turn.ensures.sink_faults c.loop.invariant.handed (subst (λ e. Handed (is_turn_whole (Ok e)) (out_of (known c.loop.pass) (g.K.Sink.given c.loop.sink)) (out_of (known c.turn.new.pass) (g.K.Sink.given c.turn.new.sink)) (g.K.Sink.faults c.loop.sink) (g.K.Sink.faults c.turn.new.sink)) c.in-Ok-None.field-0-is c.in-Ok-None.ensures.handed);
}

pub returns-in-Ok-Some-clause-attends : goal.returns-in-Ok-Some-clause-attends
returns-in-Ok-Some-clause-attends g c =
    attends_ended (known c.args.pass.now) (g.S.Source.left c.args.source.now) (known c.loop.pass) (known c.turn.new.pass) (prepend_known c.loop.reader (g.S.Source.left c.loop.source)) (prepend_known c.turn.new.reader (g.S.Source.left c.turn.new.source)) c.loop.lines c.loop.invariant.attended c.loop.invariant.few (further_handed true (out_of (known c.args.pass.now) (g.K.Sink.given c.args.sink.now)) (out_of (known c.loop.pass) (g.K.Sink.given c.loop.sink)) (g.K.Sink.faults c.args.sink.now) (g.K.Sink.faults c.loop.sink) c.loop.invariant.handed).begins c.in-Ok-Some.attended (subst (λ e. TurnedBy (c.loop.lines + 1) (known c.loop.pass) (known c.turn.new.pass) (prepend_known c.loop.reader (g.S.Source.left c.loop.source)) (prepend_known c.turn.new.reader (g.S.Source.left c.turn.new.source)) (Ok e)) c.in-Ok-Some.field-0-is c.in-Ok-Some.ensures.turns)

pub returns-in-Ok-Some-clause-handed : goal.returns-in-Ok-Some-clause-handed
returns-in-Ok-Some-clause-handed g c = handed_both _ (out_of (known c.args.pass.now) (g.K.Sink.given c.args.sink.now)) (out_of (known c.loop.pass) (g.K.Sink.given c.loop.sink)) (out_of (known c.turn.new.pass) (g.K.Sink.given c.turn.new.sink)) (g.K.Sink.faults c.args.sink.now) (g.K.Sink.faults c.loop.sink) (g.K.Sink.faults c.turn.new.sink) (omega (arith, c.loop.invariant.sink)) c.turn.ensures.sink_faults c.loop.invariant.handed (subst (λ e. Handed (is_turn_whole (Ok e)) (out_of (known c.loop.pass) (g.K.Sink.given c.loop.sink)) (out_of (known c.turn.new.pass) (g.K.Sink.given c.turn.new.sink)) (g.K.Sink.faults c.loop.sink) (g.K.Sink.faults c.turn.new.sink)) c.in-Ok-Some.field-0-is c.in-Ok-Some.ensures.handed)

pub returns-in-Err-turn-clause-attends : goal.returns-in-Err-turn-clause-attends
returns-in-Err-turn-clause-attends g c = attends_wanting (g.S.Source.left c.args.source.now) (known c.args.pass.now) (known c.turn.new.pass) _

pub returns-in-Err-turn-clause-handed : goal.returns-in-Err-turn-clause-handed
returns-in-Err-turn-clause-handed g c = handed_both _ (out_of (known c.args.pass.now) (g.K.Sink.given c.args.sink.now)) (out_of (known c.loop.pass) (g.K.Sink.given c.loop.sink)) (out_of (known c.turn.new.pass) (g.K.Sink.given c.turn.new.sink)) (g.K.Sink.faults c.args.sink.now) (g.K.Sink.faults c.loop.sink) (g.K.Sink.faults c.turn.new.sink) (omega (arith, c.loop.invariant.sink)) c.turn.ensures.sink_faults c.loop.invariant.handed c.in-Err-turn.ensures.handed
