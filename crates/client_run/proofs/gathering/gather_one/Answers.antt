use Rattle.parked_gate.specs.Passes.{known}
use Rattle.client_run.proofs.RunningLemmas.{gathered_by, longer_mine, taken_by}
use Rattle.client_run.proofs.gathering.gather_one.Goals as goal

pub returns-clause-gathers : goal.returns-clause-gathers
returns-clause-gathers g c =
    gathered_by (known c.args.pass.now) (known c.join.new.into) (known c.take-worked.result.pass) (g.N.Network.counts c.args.net.now) (g.N.Network.counts c.back.new.self) (g.N.Network.counts c.take-worked.result.share)
    c.join.ensures.begins_with_this c.join.ensures.begins_with_other (longer_mine (known c.args.pass.now) (known c.join.new.into) _ c.join.ensures.longer)
    c.back.ensures.faults c.back.ensures.others (known c.take-worked.result.ear.pass) c.take-worked.result.worked c.gathered_of.result c.gathered_of.ensures c.take-worked.result.tells

pub returns-clause-takes : goal.returns-clause-takes
returns-clause-takes g c =
    taken_by (known c.args.pass.now) (known c.join.new.into) (known c.take-worked.result.pass) (g.N.Network.counts c.args.net.now) (g.N.Network.counts c.back.new.self) (g.N.Network.counts c.take-worked.result.share)
    c.join.ensures.begins_with_this c.join.ensures.begins_with_other (longer_mine (known c.args.pass.now) (known c.join.new.into) _ c.join.ensures.longer)
    c.back.ensures.faults c.back.ensures.others (known c.take-worked.result.ear.pass) c.take-worked.result.worked c.gathered_of.result c.gathered_of.ensures c.take-worked.result.tells
