use Rattle.std.proofs.Common.{◌∙◌, subst}
use Rattle.bosh_ports.specs.Sink.{AppendsFront}
use Rattle.trace_audit.proofs.GivenLemmas.{MatchResult-err}
use Rattle.trace_audit.proofs.audit.give_outcome.Goals as goal

pub returns-in_err-give_all-clause-given : goal.returns-in_err-give_all-clause-given
returns-in_err-give_all-clause-given g c =
    MatchResult-err c.from_residual-in_err-give_all.result _ _ c.from_residual-in_err-give_all.ensures.0
    (λ _. subst (AppendsFront (g.K.Sink.given c.args.sink.now) (g.K.Sink.given c.give_all.new.sink)) (c.as_slice.ensures.value ∙ c.in_ok-text.ensures) c.in_err-give_all.ensures.given)
