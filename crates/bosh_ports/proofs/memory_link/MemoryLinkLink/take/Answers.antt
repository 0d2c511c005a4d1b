use Rattle.std.proofs.Common.{Some, ◌++◌, ◌∙◌, ap, subst, drop}
use Rattle.bosh_ports.specs.Source.{Takes}
use Rattle.bosh_ports.proofs.TakingLemmas.{takes_front}
use Rattle.bosh_ports.proofs.memory_link.MemoryLinkLink.take.Goals as goal

pub returns-clause-takes : goal.returns-clause-takes
returns-clause-takes c =
    let room = c.take.new.into ++ drop c.piece-size.result c.args.into.now in
    subst (λ left. Takes (Some left) (Some c.take.new.self.bytes) room c.take.result)
    (ap (λ link. link.taking.bytes) (c.self.view_is ∙ c.piece-size.ensures.others))
    (takes_front (Some c.self.inside.source.bytes) (Some c.take.new.self.bytes) c.take.new.into _ c.take.result c.take.ensures.takes)
