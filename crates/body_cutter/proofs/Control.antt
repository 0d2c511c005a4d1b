-- The part of the reader that decides whether a text is read: it forgets values, attributes, children and limits.
use Rattle.std.proofs.Common.{ℕ, Bool, false, ◌&&◌, List, [], ◌∷◌, ◌++◌}
use Rattle.std.specs.Prelude.{Option, None, Some, is_none, if◌then◌else◌}
use Rattle.body_cutter.specs.declared.place.Place.{Place}
use Rattle.body_cutter.specs.declared.place.Reference.{Reference}
use Rattle.body_cutter.specs.declared.place.Kind.{Kind}
use Rattle.body_cutter.specs.declared.place.Act.{Act}
use Rattle.body_cutter.specs.declared.place.Act.TheVariants.{Pass, Mark, BeginName, GrowName, OpenElement, EndAttrName, ValueByte, ValueChar, EndAttr, CloseElement}
use Rattle.body_cutter.specs.declared.place.Move.{Move}
use Rattle.body_cutter.specs.Names.{around, due, has_name, with_name, without_first, is_empty}
use Rattle.body_cutter.specs.Reader.{State, move_of, matched}
use Rattle.body_cutter.specs.Refusal.{is_content}

pub record Control : Type 0 where
  pub place : Place
  pub reference : Option Reference
  pub elements : List (List ℕ)
  pub name : List ℕ
  pub seen : List (List ℕ)

abbrev pub control_of : State → Control
control_of s = record { place = s.place; reference = s.reference; elements = s.elements; name = s.name; seen = s.seen }

-- what a move does
unfoldable pub done : Act → Control → ℕ → Option Control
done Pass c b = Some c
done Mark c b = Some c
done BeginName c b = Some (record c { name = b ∷ [] })
done GrowName c b = Some (record c { name = c.name ++ b ∷ [] })
done OpenElement c b = Some (record c { elements = c.name ∷ c.elements; name = []; seen = [] })
done EndAttrName c b = if has_name c.seen c.name then None else Some (record c { name = []; seen = with_name c.seen c.name })
done ValueByte c b = Some c
done (ValueChar character) c b = Some c
done EndAttr c b = Some c
done CloseElement c b = Some (record c { elements = without_first c.elements })

abbrev pub led : Move → Option Control → Option Control
led move None = None
led move (Some c) = Some (record c { place = move.place; reference = move.reference })

abbrev pub goes_on : Option Move → Control → ℕ → Option Control
goes_on None c b = None
goes_on (Some move) c b = led move (done move.act c b)

unfoldable pub advance : Kind → Control → ℕ → Option Control
advance kind c b = goes_on (move_of c.place c.reference (around kind c.elements) (due c.elements (matched c.place)) b) c b

-- the whole text is there
unfoldable pub is_final : Control → Bool
is_final c = is_content c.place && (is_none c.reference && is_empty c.elements)

-- whether the text that is left is read to its end
unfoldable pub accepts : Kind → Control → List ℕ → Bool
accepts kind c [] = is_final c
accepts kind c (b ∷ text) = elim (advance kind c b) [ None ↦ false | Some next ↦ accepts kind next text ]
