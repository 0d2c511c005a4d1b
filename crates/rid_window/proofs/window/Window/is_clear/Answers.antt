use Rattle.std.proofs.Common.{◌∙◌, ap, not}
use Rattle.rid_window.specs.StandsFor.{StandsFor}
use Rattle.rid_window.proofs.Places.{clear_is, clear_past, no_left}
use Rattle.rid_window.proofs.window.Window.is_clear.Goals as goal

pub returns-then-is_none : goal.returns-then-is_none
unfolding StandsFor
returns-then-is_none g c = λ plain stands.
    (λ none. clear_past stands (no_left _ (c.is_none.ensures ∙ ap not none)), λ clear. c.if-is_none.true)

pub returns-else-is_none : goal.returns-else-is_none
unfolding StandsFor
returns-else-is_none g c = λ plain stands.
    rw c.are_empty.ensures (clear_is (c.is_none.ensures ∙ ap not c.if-is_none.false) stands)
