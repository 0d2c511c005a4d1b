use Rattle.std.proofs.Common.{ap, subst, Err}
use Rattle.httparse.specs.Spans.{RequestExceeds}
use Rattle.bosh_http.proofs.JudgingLemmas.{no_overflow}
use Rattle.bosh_http.proofs.judging.judge_all.Goals as goal

pub judge_hopeless-requires-clause-never : goal.judge_hopeless-requires-clause-never
judge_hopeless-requires-clause-never c =
    c.in-Err.ensures.invalid (λ many. no_overflow c.args.front.now c.requires.front (subst (λ n. RequestExceeds n c.args.front.now) c.requires.room (c.in-Err.ensures.too_many (ap (λ e. Err e) many))))
