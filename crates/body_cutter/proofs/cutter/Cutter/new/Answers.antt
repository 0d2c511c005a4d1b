use Rattle.body_cutter.specs.Feeding.{StandsFor}
use Rattle.body_cutter.proofs.cutter.Cutter.new.Goals as goal

pub returns : goal.returns
unfolding StandsFor
returns c = c.new.ensures
