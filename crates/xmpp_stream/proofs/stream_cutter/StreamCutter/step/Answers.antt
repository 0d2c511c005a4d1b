use Rattle.std.proofs.Common.{◌∙◌, sym}
use Rattle.xmpp_stream.specs.Cut.{IsCut, IsUnfinished}
use Rattle.xmpp_stream.proofs.CutLemmas.{ended_is, not_over, told_ended, told_waiting, told_wrong}
use Rattle.xmpp_stream.proofs.stream_cutter.StreamCutter.step.Goals as goal

pub returns-then-self-clause-ok : goal.returns-then-self-clause-ok
unfolding IsCut
returns-then-self-clause-ok c = λ fed elements h. (h, told_wrong h c.if-self.true)

pub returns-then-is_ended-clause-ok : goal.returns-then-is_ended-clause-ok
unfolding IsCut
returns-then-is_ended-clause-ok c = λ fed elements h.
    (h, told_ended h (ended_is c.args.self.now.state.stage (sym c.is_ended.ensures ∙ c.if-is_ended.true)), h.error)

pub returns-in-None-clause-ok : goal.returns-in-None-clause-ok
unfolding IsCut
returns-in-None-clause-ok c = λ fed elements h.
    (h, told_waiting h (not_over c.args.self.now.state c.if-self.false (sym c.is_ended.ensures ∙ c.if-is_ended.false)) (IsUnfinished.nothing (sym c.as_slice.ensures ∙ c.in-None.ensures.none)))

pub returns-in-Some-clause-ok : goal.returns-in-Some-clause-ok
returns-in-Some-clause-ok c = λ fed elements h.
    c.step_at.ensures.ok fed elements h (not_over c.args.self.now.state c.if-self.false (sym c.is_ended.ensures ∙ c.if-is_ended.false))

pub returns-in-Some-clause-err : goal.returns-in-Some-clause-err
returns-in-Some-clause-err c = λ fed elements h.
    c.step_at.ensures.err fed elements h (not_over c.args.self.now.state c.if-self.false (sym c.is_ended.ensures ∙ c.if-is_ended.false))
