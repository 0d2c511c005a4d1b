use Rattle.rid_window.specs.StandsFor.{StandsFor}
use Rattle.rid_window.proofs.window.Window.copied.Goals as goal

pub returns : goal.returns
unfolding StandsFor
returns g c = λ plain stands. rw c.in_ok-copy_places.ensures stands
