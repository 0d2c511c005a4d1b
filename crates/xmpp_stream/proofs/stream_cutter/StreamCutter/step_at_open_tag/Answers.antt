use Rattle.std.proofs.Common.{◌<◌, ◌≤◌, ℕ, List, length, subst}
use Rattle.xmpp_stream.specs.Cut.{IsCut, IsUnfinished, IsWrong}
use Rattle.xmpp_stream.proofs.CutLemmas.{broken_step, long_open, told_waiting}
use Rattle.xmpp_stream.proofs.stream_cutter.StreamCutter.step_at_open_tag.Goals as goal

pub returns-then-as_slice-lt-LONGEST_TAG-clause-told : goal.returns-then-as_slice-lt-LONGEST_TAG-clause-told
unfolding IsCut
returns-then-as_slice-lt-LONGEST_TAG-clause-told c = λ fed elements h o.
    let short : length c.args.self.now.kept < 4096 = subst (λ (xs : List ℕ). length xs < 4096) c.as_slice.ensures c.if-as_slice-lt-LONGEST_TAG.true in
    (h, told_waiting h o (IsUnfinished.tag c.requires.mark c.requires.unended short))

pub returns-clause-told : goal.returns-clause-told
unfolding IsCut
returns-clause-told c = λ fed elements h o.
    let long : 4096 ≤ length c.args.self.now.kept = subst (λ (xs : List ℕ). 4096 ≤ length xs) c.as_slice.ensures c.if-as_slice-lt-LONGEST_TAG.false in
    broken_step c.args.self.now c.go_wrong.new.self c.args.self.now.scan c.go_wrong.result h o
    (IsWrong.long_tag c.requires.mark (long_open c.args.self.now.kept c.requires.unended long))
    c.go_wrong.ensures.told c.go_wrong.ensures.broken
