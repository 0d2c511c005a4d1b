use Rattle.two_ends.proofs.ServeLemmas.{world_serves}
use Rattle.two_ends.proofs.world.World.new.Goals as goal

pub invariant_of-result : goal.invariant_of-result
invariant_of-result c = record { served = world_serves c.args.host c.args.greeting c.args.setup c.requires }
