use Rattle.std.proofs.Common.{Some, subst, sym}
use Rattle.server_ports.specs.Events.{Begins, IsUngiven}
use Rattle.client_run.specs.Working.{setting_of, wire_of}
use Rattle.client_run.proofs.MoveLemmas.{dialled, missed}
use Rattle.client_run.proofs.carrying.dial.Goals as goal

pub returns-in-Link-clause-dials : goal.returns-in-Link-clause-dials
returns-in-Link-clause-dials g c = λ moment start known hand row moves.
    dialled (setting_of moment c.args.port) start known _ (g.N.Network.events c.dial.new.self) _ (g.N.Network.counts c.dial.new.self)
    (wire_of (g.N.Link.Link.left c.new.result.link) (g.N.Link.Link.given c.new.result.link) c.new.result.reader) hand row
    (subst (λ link. Begins (g.N.Network.events c.args.network.now) (g.N.Network.events c.dial.new.self) (Some c.args.port) (g.N.Link.Link.left link)) (sym c.new.ensures.link) c.in-Link.ensures.events)
    (subst (λ link. IsUngiven (g.N.Network.events c.dial.new.self) (g.N.Link.Link.given link)) (sym c.new.ensures.link) c.in-Link.ensures.ungiven)
    c.new.ensures.reader c.in-Link.ensures.counts moves

pub returns-in-Failed-clause-dials : goal.returns-in-Failed-clause-dials
returns-in-Failed-clause-dials g c = λ moment start known hand row moves.
    missed (setting_of moment c.args.port) start known _ (g.N.Network.events c.dial.new.self) _ (g.N.Network.counts c.dial.new.self) hand row c.in-Failed.ensures.events c.in-Failed.ensures.counts moves
