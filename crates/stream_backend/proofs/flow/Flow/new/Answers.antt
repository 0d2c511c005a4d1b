use Rattle.std.proofs.Common.{ap, sym, ◌∙◌, subst, map, ℕ, List}
use Rattle.std.specs.Prelude.{Option}
use Rattle.xmpp_stream.specs.Wire.{IsRead, IsWritten}
use Rattle.stream_backend.proofs.FlowLemmas.{flow_first}
use Rattle.stream_backend.proofs.flow.Flow.new.Goals as goal

pub invariant_of-result : goal.invariant_of-result
invariant_of-result g c =
    flow_first _
    (ap g.L.Link.given (c.of-start.ensures ∙ sym c.new.ensures.link))
    (ap g.L.Link.left (c.of-start.ensures ∙ sym c.new.ensures.link))
    (λ start. subst (λ o. IsWritten start start o _) (sym c.new.ensures.outgoing) (c.requires.owed start))
    (λ start. subst (λ o. IsRead start start o _) (sym c.new.ensures.incoming) (c.requires.taken start))
    (ap (λ xs. map (λ entry. entry.0) xs) c.new-2.ensures)
    (ap (λ xs. map (λ entry. entry.0) xs) c.new-3.ensures)
