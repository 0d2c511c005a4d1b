use Rattle.std.proofs.Common.{subst, sym}
use Rattle.xmpp_backend.specs.Told.{Told}
use Rattle.stream_backend.specs.Serving.{IsServing}
use Rattle.stream_backend.proofs.TiedLemmas.{serving_opened}
use Rattle.stream_backend.proofs.backend.StreamBackendBackend.open.Goals as goal

pub invariant_of-self-2 : goal.invariant_of-self-2
invariant_of-self-2 g c =
    subst (λ (t : Told). IsServing t c.begin.new.lines.items) (sym c.open-2.ensures)
    (serving_opened c.args.wire _ c.self.inside.lists c.in-Ok-new.ends.outgoing.to (g.N.Network.counts c.self.inside.network) (g.N.Network.counts c.begin.new.network) c.reserve.new.self.items c.begin.new.lines.items
    (subst (IsServing c.self.inside.lists) (sym c.reserve.ensures.items) c.self.invariant) c.begin.ensures)
