use Rattle.std.proofs.Common.{◌∙◌, ◌++◌, ℕ, List, sym, subst}
use Rattle.xmpp_stream.specs.Cut.{Holds, IsCut}
use Rattle.xmpp_stream.proofs.CutLemmas.{fed_more, fed_past}
use Rattle.xmpp_stream.proofs.stream_cutter.StreamCutter.feed.Goals as goal

pub returns-then-is_over-clause-ok : goal.returns-then-is_over-clause-ok
unfolding IsCut
returns-then-is_over-clause-ok c = λ fed elements h. fed_past h c.args.piece.now (sym c.is_over.ensures ∙ c.if-is_over.true)

pub returns-clause-ok : goal.returns-clause-ok
unfolding IsCut
returns-clause-ok c = λ fed elements h.
    subst (λ (k : List ℕ). Holds k c.args.self.now.scan c.args.self.now.state (fed ++ c.args.piece.now) elements) (sym c.in_ok-push.ensures.ok)
    (fed_more h c.args.piece.now (sym c.is_over.ensures ∙ c.if-is_over.false))
