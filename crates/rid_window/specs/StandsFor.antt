-- Which plain windows a window stands for.
use Rattle.std.specs.Prelude.{◌≡◌, ℕ, ◌+◌, List, Option, Some, None, length, slice_index_or}
use Rattle.bosh_types.specs.ById.{at_id}
use Rattle.rid_window.specs.declared.window.Window.{Window}
use Rattle.rid_window.specs.PlainWindow.{PlainWindow}

-- there is a place for each id of the window and for one more, and each has what was placed at its id, the lowest first
pub record Holds {T : Type 0} (next : Option ℕ) (places : List (Option T)) (plain : PlainWindow T) : Type 0 where
  pub next_is : next ≡ plain.next
  pub room : length places ≡ plain.width + 1
  pub each : (first ahead : ℕ) → next ≡ Some first → at_id plain.placed (first + ahead) ≡ slice_index_or places ahead None

-- a window stands for each plain window whose items not taken it holds
unfoldable pub StandsFor : {T : Type 0} → Window T → PlainWindow T → Type 0
StandsFor window plain = Holds window.next window.places.items plain
