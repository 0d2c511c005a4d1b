use Rattle.body_cutter.proofs.BuiltBodies.{reads_back}
use Rattle.body_cutter.proofs.laws.built_bodies_read_back.Goals as goal

pub returns : goal.returns
returns c = λ attributes elements most depth text are fresh count within. reads_back most depth attributes elements text are fresh count within
