use Rattle.parked_gate.specs.Passes.{known}
use Rattle.session_pump.specs.Pumping.{pumping_of}
use Rattle.bosh_server.proofs.FateLemmas.{of_longer_each}
use Rattle.bosh_server.proofs.PumpLemmas.{together}
use Rattle.bosh_server.proofs.run.Works.dismiss.Goals as goal

pub returns-clause-together : goal.returns-clause-together
returns-clause-together g c =
    let port = g.E.Backend in
    let pump = c.fetch_pump-pump.result in
    let seen = (known pump.purse.directory).seen in
    together g.J.Naming.stands c.gather-roll.result (pumping_of port.told port.counts pump) (pumping_of port.told port.counts c.last_turn.new.pump)
    c.fetch_pump-pump.ensures.runs c.last_turn.ensures pump.purse.directory.legal
    (of_longer_each (known c.gather-roll.new.pass).seen seen c.gather-roll.result c.fetch_pump-pump.ensures.seen c.gather-roll.ensures.of_one)
