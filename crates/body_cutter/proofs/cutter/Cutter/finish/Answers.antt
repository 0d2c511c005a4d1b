use Rattle.body_cutter.specs.declared.place.Kind.TheVariants as kinds
use Rattle.body_cutter.specs.Cutting.{body_cut_of}
use Rattle.body_cutter.specs.Feeding.{StandsFor}
use Rattle.body_cutter.proofs.cutter.Cutter.finish.Goals as goal

pub returns : goal.returns
unfolding StandsFor body_cut_of
returns c = λ text f. c.finish.ensures kinds.Body text f
