use Rattle.parked_gate.specs.Passes.{known}
use Rattle.bosh_server.proofs.FateLemmas.{of_longer}
use Rattle.bosh_server.proofs.seat.LoopTools.learn.Goals as goal

pub invariant_of-self-clause-of_one : goal.invariant_of-self-clause-of_one
invariant_of-self-clause-of_one g c =
    of_longer (known c.args.self.now.pass).seen (known c.share.new.with).seen c.args.self.now.fates c.share.ensures.begins_with_this c.args.self.now.of_one
