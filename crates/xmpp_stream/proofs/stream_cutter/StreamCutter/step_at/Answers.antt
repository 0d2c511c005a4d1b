use Rattle.std.proofs.Common.{◌∙◌, ◌≤◌, length, drop, refl, sym, ap}
use Rattle.xmpp_stream.specs.declared.stream_cutter.State.{State}
use Rattle.xmpp_stream.specs.Cut.{IsCut, IsUnfinished, IsWrong}
use Rattle.xmpp_stream.specs.Stream.{mark_in}
use Rattle.xmpp_stream.proofs.CutLemmas.{broken_step, nonempty, other_byte, space_step, told_waiting}
use Rattle.xmpp_stream.proofs.stream_cutter.StreamCutter.step_at.Goals as goal

pub returns-then-is_space-clause-ok : goal.returns-then-is_space-clause-ok
unfolding IsCut
returns-then-is_space-clause-ok c = λ fed elements h o.
    let within : 1 ≤ length c.args.self.now.kept = nonempty c.args.self.now.kept (drop 1 c.args.self.now.kept) c.args.b c.requires in
    space_step c.args.self.now c.pass.new.self 1 c.after_space.result c.pass.ensures.kept c.pass.ensures.scan (ap (λ (s : State). s.stage) c.pass.ensures.state) (ap (λ (s : State). s.is_broken) c.pass.ensures.state)
    c.pass.ensures.place h o within c.args.b refl c.requires (sym c.is_space.ensures ∙ c.if-is_space.true) c.after_space.ensures (ap (λ (s : State). s.has_error) c.pass.ensures.state)

pub returns-then-b-ne60-clause-ok : goal.returns-then-b-ne60-clause-ok
unfolding IsCut
returns-then-b-ne60-clause-ok c = λ fed elements h o.
    broken_step c.args.self.now c.go_wrong.new.self c.args.self.now.scan c.go_wrong.result h o
    (IsWrong.character c.args.b (drop 1 c.args.self.now.kept) c.requires (sym c.is_space.ensures ∙ c.if-is_space.false) (other_byte c.args.b 60 c.if-b-ne60.true))
    c.go_wrong.ensures.told c.go_wrong.ensures.broken

pub returns-in-Undecided-clause-ok : goal.returns-in-Undecided-clause-ok
unfolding IsCut
returns-in-Undecided-clause-ok c = λ fed elements h o.
    (h, told_waiting h o (IsUnfinished.undecided (sym (c.mark_in.ensures ∙ ap (mark_in c.args.self.now.state.stage) c.as_slice.ensures) ∙ c.in-Undecided.is)))
