use Rattle.bosh_http.proofs.JudgingLemmas.{whole_refused, whole_served}
use Rattle.bosh_http.proofs.judging.judge_whole.Goals as goal

pub returns-in-Some : goal.returns-in-Some
returns-in-Some c =
    whole_refused c.args.front.now c.args.headers.now c.split_at.result.0.now c.args.spans.now c.of-method.result.now c.of-target.result.now c.in-Some.refusal
    c.requires.short c.requires.within c.requires.whole c.split_at.ensures.front c.of-method.ensures c.of-target.ensures c.in-Some.ensures

pub returns-in-None : goal.returns-in-None
returns-in-None c =
    whole_served c.args.front.now c.args.headers.now c.split_at.result.0.now c.args.spans.now c.of-method.result.now c.of-target.result.now c.first_length.result c.is_closing.result
    c.requires.short c.requires.within c.requires.whole c.split_at.ensures.front c.of-method.ensures c.of-target.ensures c.in-None.ensures c.first_length.ensures c.is_closing.ensures
