use Rattle.std.proofs.Common.{subst, sym}
use Rattle.xmpp_backend.specs.Told.{Told}
use Rattle.stream_backend.specs.Serving.{IsServing}
use Rattle.stream_backend.proofs.TiedLemmas.{serving_passed}
use Rattle.stream_backend.proofs.backend.StreamBackendBackend.pass.Goals as goal

pub invariant_of-self : goal.invariant_of-self
invariant_of-self g c = subst (λ (t : Told). IsServing t c.owe.new.lines.items) (sym c.pass.ensures) (serving_passed c.args.wire c.args.item.now c.self.inside.lists c.self.inside.lines.items c.owe.new.lines.items c.self.invariant c.in-Ok.ensures.ok)
