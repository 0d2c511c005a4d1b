use Rattle.std.proofs.Common.{rules, refl, subst, arith}
use Rattle.std.specs.Prelude.{Ok}
use Rattle.std.specs.Io.KnownBytes.{prepend_known}
use Rattle.parked_gate.specs.Passes.{known}
use Rattle.client_run.specs.Handing.{out_of}
use Rattle.client_run.specs.Talking.{TurnsBy, talk_of}
use Rattle.client_run.proofs.TurnLemmas.{spoken_more, spoken_none_at, talks_ended, talks_err, talks_last, wanting_any}
use Rattle.client_run.proofs.talking.speak.Goals as goal

pub returns-in_err-reader-clause-talks : goal.returns-in_err-reader-clause-talks
returns-in_err-reader-clause-talks g c = wanting_any (out_of (known c.args.pass.now) (g.K.Sink.given c.args.sink.now)) (g.S.Source.left c.args.source.now) c.from_residual.result c.from_residual.ensures.0

pub loop-lines-init : goal.loop-lines-init
loop-lines-init g c = record {
  pass = search rules;
  few = omega arith;
  source = refl;
  sink = refl;
  silences = omega arith;
  speaks = spoken_none_at (out_of (known c.args.pass.now) (g.K.Sink.given c.args.sink.now)) (g.S.Source.left c.args.source.now) _ c.in_ok-reader.ensures;
}

pub returns-in-Ok-Some-clause-talks : goal.returns-in-Ok-Some-clause-talks
returns-in-Ok-Some-clause-talks g c =
    talks_ended _ (out_of (known c.loop-lines.pass) (g.K.Sink.given c.loop-lines.sink)) (out_of (known c.turn.new.pass) (g.K.Sink.given c.turn.new.sink)) (prepend_known c.loop-lines.reader (g.S.Source.left c.loop-lines.source)) c.loop-lines.lines c.loop-lines.invariant.speaks
    (g.S.Source.left c.turn.new.source) c.turn.new.reader c.in-Ok-Some.talked c.loop-lines.invariant.few
    (λ put is. subst (λ talked. TurnsBy (talk_of (out_of (known c.loop-lines.pass) (g.K.Sink.given c.loop-lines.sink)) (prepend_known c.loop-lines.reader (g.S.Source.left c.loop-lines.source)) put)
    (talk_of (out_of (known c.turn.new.pass) (g.K.Sink.given c.turn.new.sink)) (prepend_known c.turn.new.reader (g.S.Source.left c.turn.new.source)) put) (Ok talked)) c.in-Ok-Some.field-0-is (c.in-Ok-Some.ensures.turns put is))

pub returns-in-Err-clause-talks : goal.returns-in-Err-clause-talks
returns-in-Err-clause-talks g c =
    talks_err _ (out_of (known c.loop-lines.pass) (g.K.Sink.given c.loop-lines.sink)) (out_of (known c.turn.new.pass) (g.K.Sink.given c.turn.new.sink)) (prepend_known c.loop-lines.reader (g.S.Source.left c.loop-lines.source)) c.loop-lines.lines c.loop-lines.invariant.speaks
    (g.S.Source.left c.turn.new.source) c.turn.new.reader c.in-Err.field-0 c.loop-lines.invariant.few c.in-Err.ensures.turns

pub loop-lines-preserved : goal.loop-lines-preserved
loop-lines-preserved g c = record {
  pass = search rules;
  few = search rules;
  source = search rules;
  sink = search rules;
  silences = search rules;
  speaks = spoken_more _ (out_of (known c.loop-lines.pass) (g.K.Sink.given c.loop-lines.sink)) (out_of (known c.turn.new.pass) (g.K.Sink.given c.turn.new.sink)) (prepend_known c.loop-lines.reader (g.S.Source.left c.loop-lines.source)) c.loop-lines.lines c.loop-lines.invariant.speaks
      (prepend_known c.turn.new.reader (g.S.Source.left c.turn.new.source))
      (λ put is. subst (λ talked. TurnsBy (talk_of (out_of (known c.loop-lines.pass) (g.K.Sink.given c.loop-lines.sink)) (prepend_known c.loop-lines.reader (g.S.Source.left c.loop-lines.source)) put)
      (talk_of (out_of (known c.turn.new.pass) (g.K.Sink.given c.turn.new.sink)) (prepend_known c.turn.new.reader (g.S.Source.left c.turn.new.source)) put) (Ok talked)) c.in-Ok-None.field-0-is (c.in-Ok-None.ensures.turns put is));
}

pub returns-clause-talks : goal.returns-clause-talks
returns-clause-talks g c =
    talks_last _ (out_of (known c.loop-lines.pass) (g.K.Sink.given c.loop-lines.sink)) (out_of (known c.last.new.pass) (g.K.Sink.given c.loop-lines.sink)) (prepend_known c.loop-lines.reader (g.S.Source.left c.loop-lines.source)) c.loop-lines.lines c.loop-lines.invariant.speaks
    (g.S.Source.left c.last.new.source) c.last.new.reader c.last.result (omega (arith, c.loop-lines.invariant.few, c.loop-lines-test.false)) (c.last.ensures.ends (g.K.Sink.given c.loop-lines.sink))
