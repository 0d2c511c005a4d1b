use Rattle.parked_gate.specs.Passes.{known}
use Rattle.client_run.proofs.RunningLemmas.{gathered_both, taken_both}
use Rattle.client_run.proofs.gathering.gather_two.Goals as goal

pub returns-clause-gathers : goal.returns-clause-gathers
returns-clause-gathers g c =
    gathered_both (known c.args.pass.now) (known c.gather_one-first.new.pass) (known c.gather_one-second.new.pass) (g.N.Network.counts c.args.net.now) (g.N.Network.counts c.gather_one-first.new.net) (g.N.Network.counts c.gather_one-second.new.net)
    c.gather_one-first.result c.gather_one-second.result c.worse_of.result c.gather_one-first.ensures.gathers c.gather_one-second.ensures.gathers c.worse_of.ensures

pub returns-clause-takes : goal.returns-clause-takes
returns-clause-takes g c =
    taken_both (known c.gather_one-first.new.pass).seen (known c.gather_one-second.new.pass).seen (g.N.Network.counts c.args.net.now) (g.N.Network.counts c.gather_one-first.new.net) (g.N.Network.counts c.gather_one-second.new.net)
    c.gather_one-first.result c.gather_one-second.result c.worse_of.result c.gather_one-second.ensures.gathers.begins c.gather_one-first.ensures.takes c.gather_one-second.ensures.takes c.worse_of.ensures
