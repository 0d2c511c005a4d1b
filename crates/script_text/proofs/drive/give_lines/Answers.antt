use Rattle.std.proofs.Common.{◌∙◌, ◌+◌, [], ◌∷◌, drop, subst, arith}
use Rattle.script_text.proofs.GivenLemmas.{HasReported, MatchResult-err, from_place, front_reported, more_reported}
use Rattle.script_text.proofs.drive.give_lines.Goals as goal

pub loop-line-preserved : goal.loop-line-preserved
loop-line-preserved g c =
    let place = from_place c.args.lines.now c.loop-line.line-index c.line-item.result (omega (arith, c.loop-line-test.true)) c.line-item.is in
    record {
      given = more_reported _ _ _ c.args.lines.now (c.line-item.result ∷ []) (drop (c.loop-line.line-index + 1) c.args.lines.now)
          (subst (HasReported (g.K.Sink.given c.args.sink.now) (g.K.Sink.given c.loop-line.sink) c.args.lines.now) place c.loop-line.invariant.given) c.in_ok-give_line.ensures.given;
      faults = c.in_ok-give_line.ensures.counts ∙ c.loop-line.invariant.faults;
    }

pub returns-in_err-give_line-clause-given : goal.returns-in_err-give_line-clause-given
returns-in_err-give_line-clause-given g c =
    let place = from_place c.args.lines.now c.loop-line.line-index c.line-item.result (omega (arith, c.loop-line-test.true)) c.line-item.is in
    MatchResult-err c.from_residual.result _ _ c.from_residual.ensures.0
    (λ _. front_reported _ _ _ c.args.lines.now (c.line-item.result ∷ []) (drop (c.loop-line.line-index + 1) c.args.lines.now)
    (subst (HasReported (g.K.Sink.given c.args.sink.now) (g.K.Sink.given c.loop-line.sink) c.args.lines.now) place c.loop-line.invariant.given) c.in_err-give_line.ensures.given)
