use Rattle.rid_window.specs.StandsFor.{StandsFor}
use Rattle.rid_window.proofs.window.Window.next.Goals as goal

pub returns : goal.returns
unfolding StandsFor
returns g c = λ plain stands. stands.next_is
