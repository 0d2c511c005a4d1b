use Rattle.std.proofs.Common.{refl, subst, sym}
use Rattle.xmpp_backend.specs.Told.{Told}
use Rattle.stream_backend.specs.Serving.{IsServing}
use Rattle.stream_backend.proofs.TiedLemmas.{serving_held}
use Rattle.stream_backend.proofs.backend.StreamBackendBackend.hold.Goals as goal

pub invariant_of-self : goal.invariant_of-self
invariant_of-self g c = subst (λ (t : Told). IsServing t c.hold.new.lines.items) (sym c.hold-2.ensures) (serving_held c.args.wire c.self.inside.lists c.self.inside.lines.items c.hold.new.lines.items c.self.invariant c.hold.ensures)

pub returns : goal.returns
returns g c = rw (← c.self.view_is) (record { told = c.hold-2.ensures; counts = refl; lines = c.hold.ensures })
