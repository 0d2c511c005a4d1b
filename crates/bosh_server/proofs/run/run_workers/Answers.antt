use Rattle.std.proofs.Common.{IfOk, map, subst}
use Rattle.std.specs.Arc.{arc_value}
use Rattle.std.specs.Option.{option_map}
use Rattle.session_pump.specs.Pumping.{facts_of, pumping_of}
use Rattle.bosh_server.specs.Behind.{IsService}
use Rattle.bosh_server.specs.Fates.{site_of}
use Rattle.bosh_server.proofs.RollLemmas.{site_is, stands_are}
use Rattle.bosh_server.proofs.run.run_workers.Goals as goal

pub returns-clause-service : goal.returns-clause-service
returns-clause-service g c =
    let port = g.L.Polled in
    let back = g.E.Backend in
    let ran = c.run_named in
    let yard = arc_value c.in_ok-yard.yard in
    let stands = c.in_ok-hosts.hosts.stands.items in
    let moment = g.C.Clock.moment c.args.outside.now.clock in
    let old = g.N.Network.counts c.args.outside.now.net in
    let new = g.N.Network.counts ran.new.outside.net in
    let pump = option_map (pumping_of back.told back.counts) ran.new.outside.pump in
    subst (λ hosts. IfOk ran.result (λ _. ∥ IsService port.left port.given port.closed port.faults (site_of c.args.hosts.items c.args.plan.now.limits moment) hosts old new ran.new.outside.roll pump ∥₁))
    (stands_are back.told back.counts c.args.hosts.items stands c.in_ok-hosts.ensures)
    (subst (λ site. IfOk ran.result (λ _. ∥ IsService port.left port.given port.closed port.faults site (map (facts_of back.told back.counts) stands) old new ran.new.outside.roll pump ∥₁))
    (site_is c.args.hosts.items stands yard.hosts yard.limits c.args.plan.now.limits moment c.in_ok-hosts.ensures c.in_ok-yard.ensures.hosts c.in_ok-yard.ensures.limits)
    ran.ensures.service)
