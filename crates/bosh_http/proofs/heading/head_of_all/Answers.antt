use Rattle.std.proofs.Common.{ap, subst, Err}
use Rattle.httparse.specs.Spans.{ResponseExceeds}
use Rattle.bosh_http.proofs.HeadingLemmas.{no_response_overflow, never_bad}
use Rattle.bosh_http.proofs.heading.head_of_all.Goals as goal

pub returns-in-Err : goal.returns-in-Err
returns-in-Err c =
    never_bad c.args.front.now c.requires.front (c.in-Err.ensures.invalid (λ many. no_response_overflow c.args.front.now c.requires.front (subst (λ n. ResponseExceeds n c.args.front.now) c.requires.room (c.in-Err.ensures.too_many (ap (λ e. Err e) many)))))
