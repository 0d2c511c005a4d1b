use Rattle.std.proofs.Common.{◌∙◌, ◌++◌, ◌∷◌, [], ap, length, sym, arith}
use Rattle.bosh_client.specs.Outgoing.{stanzas_in}
use Rattle.bosh_client.proofs.Fronts.{stanzas_more}
use Rattle.bosh_client.proofs.queue.Queue.stanzas_in.Goals as goal

pub loop-index-preserved : goal.loop-index-preserved
loop-index-preserved c =
    c.in_ok-push_stanza.ensures ∙ ap (λ stanzas. stanzas ++ stanzas_in (c.index.result.now ∷ [])) c.loop-index.invariant
    ∙ sym (stanzas_more c.self.inside.items.items c.loop-index.index c.index.result.now (omega (arith, ap length c.self.view_is)) c.index.ensures)
