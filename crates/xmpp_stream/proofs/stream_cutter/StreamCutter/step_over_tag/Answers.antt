use Rattle.std.proofs.Common.{◌∙◌, sym, ap, arith}
use Rattle.xmpp_stream.specs.declared.stream_cutter.State.{State}
use Rattle.xmpp_stream.specs.Cut.{IsCut, IsWrong}
use Rattle.xmpp_stream.proofs.CutLemmas.{broken_step, long_whole, tag_step}
use Rattle.xmpp_stream.proofs.stream_cutter.StreamCutter.step_over_tag.Goals as goal

pub returns-then-count-gt-LONGEST_TAG-clause-ok : goal.returns-then-count-gt-LONGEST_TAG-clause-ok
unfolding IsCut
returns-then-count-gt-LONGEST_TAG-clause-ok c = λ fed elements h o.
    broken_step c.args.self.now c.go_wrong.new.self c.args.self.now.scan c.go_wrong.result h o
    (IsWrong.long_tag c.requires.mark (long_whole c.args.self.now.kept c.args.count c.requires.ended c.if-count-gt-LONGEST_TAG.true))
    c.go_wrong.ensures.told c.go_wrong.ensures.broken

pub returns-in-None-clause-ok : goal.returns-in-None-clause-ok
unfolding IsCut
returns-in-None-clause-ok c = λ fed elements h o.
    broken_step c.args.self.now c.go_wrong-in-None.new.self c.args.self.now.scan c.go_wrong-in-None.result h o
    (IsWrong.no_tag c.args.count c.requires.mark c.requires.ended (sym c.in_ok-after_tag.ensures ∙ c.in-None.is))
    c.go_wrong-in-None.ensures.told c.go_wrong-in-None.ensures.broken

pub returns-in-Some-clause-ok : goal.returns-in-Some-clause-ok
unfolding IsCut
returns-in-Some-clause-ok c = λ fed elements h o.
    tag_step c.args.self.now c.pass.new.self c.args.count c.in-Some.next c.pass.ensures.kept c.pass.ensures.scan (ap (λ (s : State). s.stage) c.pass.ensures.state) (ap (λ (s : State). s.is_broken) c.pass.ensures.state)
    c.pass.ensures.place h o c.requires.within c.requires.ended (omega arith) (sym c.in_ok-after_tag.ensures ∙ c.in-Some.is) (ap (λ (s : State). s.has_error) c.pass.ensures.state)
