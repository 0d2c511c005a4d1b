use Rattle.std.proofs.Common.{sym, ◌∙◌}
use Rattle.bosh_http.proofs.JudgingLemmas.{hopeless_begun, hopeless_refused}
use Rattle.bosh_http.proofs.judging.judge_hopeless.Goals as goal

pub returns-then-ends_in_target : goal.returns-then-ends_in_target
returns-then-ends_in_target c = hopeless_begun c.args.front.now c.requires.never (sym c.ends_in_target.ensures ∙ c.if-ends_in_target.true)

pub returns : goal.returns
returns c = hopeless_refused c.args.front.now c.requires.short c.requires.never (sym c.ends_in_target.ensures ∙ c.if-ends_in_target.false)
