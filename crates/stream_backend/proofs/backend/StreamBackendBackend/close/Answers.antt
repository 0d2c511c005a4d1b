use Rattle.std.proofs.Common.{subst, sym}
use Rattle.xmpp_backend.specs.Told.{Told}
use Rattle.stream_backend.specs.Serving.{IsServing}
use Rattle.stream_backend.proofs.TiedLemmas.{serving_closed}
use Rattle.stream_backend.proofs.backend.StreamBackendBackend.close.Goals as goal

pub invariant_of-self : goal.invariant_of-self
invariant_of-self g c = subst (λ (t : Told). IsServing t c.end.new.lines.items) (sym c.close.ensures) (serving_closed c.args.wire c.now-now.result c.self.inside.lists c.self.inside.lines.items c.end.new.lines.items c.self.invariant c.in-Ok.ensures.ok)
