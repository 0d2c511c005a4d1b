use Rattle.std.proofs.Common.{arith, refl}
use Rattle.parked_gate.specs.Passes.{known}
use Rattle.bosh_server.proofs.RollLemmas.{serviced, serviced_none}
use Rattle.bosh_server.proofs.run.Works.run.Goals as goal

pub returns-in-Refused-clause-service : goal.returns-in-Refused-clause-service
returns-in-Refused-clause-service g c =
    let port = g.L.Polled in
    let counts = g.N.Network.counts c.args.outside.now.net in
    serviced_none port.left port.given port.closed port.faults g.E.Backend.told g.E.Backend.counts g.J.Naming.site g.J.Naming.stands counts counts c.new-outside.result
    (known c.args.pass.now).seen c.put_pump.new.place c.new-outside.ensures refl c.args.pass.now.legal c.put_pump.ensures

pub returns-then-is_refused-clause-service : goal.returns-then-is_refused-clause-service
returns-then-is_refused-clause-service g c =
    let port = g.L.Polled in
    let counts = g.N.Network.counts c.args.outside.now.net in
    let home = c.dismiss-roll in
    serviced port.left port.given port.closed port.faults g.E.Backend.told g.E.Backend.counts g.J.Naming.site g.J.Naming.stands counts counts 0 home.result.roll
    c.put_pump-then-is_refused.new.place home.result.pump home.ensures.all (λ low. omega arith) home.ensures.true_of c.put_pump-then-is_refused.ensures home.ensures.together

pub returns-clause-service : goal.returns-clause-service
returns-clause-service g c =
    let port = g.L.Polled in
    let came = c.accept_all-ran in
    let home = c.dismiss-roll-2 in
    serviced port.left port.given port.closed port.faults g.E.Backend.told g.E.Backend.counts g.J.Naming.site g.J.Naming.stands
    (g.N.Network.counts c.args.outside.now.net) (g.N.Network.counts came.new.net) came.result.links home.result.roll c.put_pump-2.new.place home.result.pump
    home.ensures.all came.ensures.links home.ensures.true_of c.put_pump-2.ensures home.ensures.together
