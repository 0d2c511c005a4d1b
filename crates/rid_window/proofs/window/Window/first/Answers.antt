use Rattle.std.proofs.Common.{not, ◌∙◌, ap}
use Rattle.rid_window.specs.StandsFor.{StandsFor}
use Rattle.rid_window.proofs.Places.{first_is, first_none, no_left}
use Rattle.rid_window.proofs.window.Window.first.Goals as goal

pub returns-then-is_none : goal.returns-then-is_none
unfolding StandsFor
returns-then-is_none g c = λ plain stands. first_none stands (no_left _ (c.is_none.ensures ∙ ap not c.if-is_none.true))

pub returns : goal.returns
unfolding StandsFor
returns g c = λ plain stands.
    c.item_at.ensures ∙ first_is (c.is_none.ensures ∙ ap not c.if-is_none.false) stands
