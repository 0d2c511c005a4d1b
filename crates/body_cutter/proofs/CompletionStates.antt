-- What holds of each state that the reader comes to.
use Rattle.std.proofs.Common.{◌≡◌, ◌<◌, ℕ, true, List, [], ◌∷◌, ◌++◌, drop}
use Rattle.std.specs.Prelude.{Option, None, Some}
use Rattle.body_cutter.specs.declared.place.Place.{Place}
use Rattle.body_cutter.specs.declared.place.Place.TheVariants.{Start, First, DeclarationWord, Declaration, Prolog, BodyWord, Content as InContent, Section as InSection, EndName, TagName, AttrName, Value as InValue}
use Rattle.body_cutter.specs.declared.place.Wide.{Wide}
use Rattle.body_cutter.specs.declared.place.Wide.TheVariants.{Whole}
use Rattle.body_cutter.specs.declared.place.Kind.{Kind}
use Rattle.body_cutter.specs.declared.place.Reference.{Reference}
use Rattle.body_cutter.specs.declared.place.Around.{Around}
use Rattle.body_cutter.specs.declared.place.Around.TheVariants.{Child}
use Rattle.body_cutter.specs.Chars.{ends_whole}
use Rattle.body_cutter.specs.Names.{around}
use Rattle.body_cutter.proofs.Control.{Control}
use Rattle.body_cutter.proofs.CompletionTools.{AllWhole}
use Rattle.body_cutter.proofs.CompletionReferences.{Within}

-- the last character of these bytes lacks just this
pub record Lacks (bytes : List ℕ) (w : Wide) : Type 0 where
  pub ends : (more : List ℕ) → ends_whole Whole (bytes ++ more) ≡ ends_whole w more

-- only in a child may a character be unfinished between tags
abbrev pub InChild : Around → Wide → Type 0
InChild Child w = Unit {0}
InChild _ w = w ≡ Whole

-- an end tag goes on with a name of whole characters
abbrev pub Due : List (List ℕ) → ℕ → Wide → Type 0
Due [] count w = w ≡ Whole
Due (name ∷ outer) count w = ends_whole w (drop count name) ≡ true

-- what holds at a place
abbrev pub Here : Place → Kind → Wide → List (List ℕ) → List ℕ → Type 0
Here Start kind w elements name = (w ≡ Whole) × (name ≡ [])
Here First kind w elements name = (w ≡ Whole) × (name ≡ [])
Here (DeclarationWord count) kind w elements name = (w ≡ Whole) × (name ≡ [])
Here (Declaration after_mark) kind w elements name = name ≡ []
Here Prolog kind w elements name = (w ≡ Whole) × (name ≡ [])
Here (BodyWord count) kind w elements name = (w ≡ Whole) × Lacks name w
Here (InContent count) kind w elements name = InChild (around kind elements) w
Here (InSection count) kind w elements name = Unit {0}
Here (EndName count) kind w elements name = Due elements count w
Here TagName kind w elements name = Lacks name w
Here AttrName kind w elements name = Unit {0}
Here (InValue quote after_cr) kind w elements name = quote < 128
Here _ kind w elements name = w ≡ Whole

-- what holds in a reference
abbrev pub InReference : Option Reference → Wide → Type 0
InReference None w = Unit {0}
InReference (Some reference) w = (w ≡ Whole) × Within reference

-- what holds of a state
pub record Sound (kind : Kind) (c : Control) (w : Wide) : Type 0 where
  pub names : AllWhole c.elements
  pub here : Here c.place kind w c.elements c.name
  pub reference : InReference c.reference w
