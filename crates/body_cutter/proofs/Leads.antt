-- Where a byte leads, taken apart: the tests of a table, and the move that is left.
use Rattle.std.proofs.Common.{◌≡◌, ℕ, Bool, true, false, ◌&&◌, List, refl}
use Rattle.std.specs.Prelude.{Option, None, Some, if◌then◌else◌}
use Rattle.body_cutter.specs.declared.place.Place.{Place}
use Rattle.body_cutter.specs.declared.place.Kind.{Kind}
use Rattle.body_cutter.specs.declared.place.Act.{Act}
use Rattle.body_cutter.specs.declared.place.Move.{Move}
use Rattle.body_cutter.specs.Tables.{goes, goes_if}
use Rattle.body_cutter.proofs.Control.{Control, done, led, goes_on, accepts}
use Rattle.body_cutter.proofs.Completes.{Completes}

abbrev pub ctl : Place → List (List ℕ) → List ℕ → List (List ℕ) → Control
ctl place elements name seen = record { place = place; reference = None; elements = elements; name = name; seen = seen }

abbrev pub runs : Kind → Option Control → List ℕ → Bool
runs kind o text = elim o [ None ↦ false | Some next ↦ accepts kind next text ]

-- what is known of the text after a byte
abbrev pub Known : Kind → List ℕ → Type 0
Known kind text = (c : Control) → accepts kind c text ≡ true → Completes kind c text

-- this move by b leads to a state that takes the text
pub record Goes (kind : Kind) (c : Control) (b : ℕ) (text : List ℕ) (o : Option Move) : Type 0 where
  pub run : runs kind (goes_on o c b) text ≡ true

pub split : {P : Type 0} {kind : Kind} {c : Control} {b : ℕ} {text : List ℕ} (t : Bool) (x y : Option Move) → Goes kind c b text (if t then x else y) → (t ≡ true → Goes kind c b text x → P) → (t ≡ false → Goes kind c b text y → P) → P
split true x y h f g = f refl h
split false x y h f g = g refl h

absurd_false : {P : Type 0} → false ≡ true → P
absurd_false h = absurd (cc)

pub dead : {kind : Kind} {c : Control} {b : ℕ} {text : List ℕ} → Goes kind c b text None → ⊥
dead h = absurd_false h.run

pub only : {kind : Kind} {c : Control} {b : ℕ} {text : List ℕ} (t : Bool) (place : Place) (act : Act) → Goes kind c b text (goes_if t place act) → (t ≡ true) × Goes kind c b text (goes place act)
only true place act h = (refl, h)
only false place act h = absurd (dead h)

pub leads : {kind : Kind} {c : Control} {b : ℕ} {text : List ℕ} (move : Move) → Goes kind c b text (Some move) → runs kind (led move (done move.act c b)) text ≡ true
leads move h = h.run

-- a test that must fail
pub gate : (t : Bool) (kind : Kind) (move : Move) (c : Control) (text : List ℕ) → runs kind (led move (if t then None else Some c)) text ≡ true → (t ≡ false) × (runs kind (led move (Some c)) text ≡ true)
gate true kind move c text h = absurd (cc)
gate false kind move c text h = (refl, h)

pub both : (a b : Bool) → (a && b) ≡ true → (a ≡ true) × (b ≡ true)
both true b h = (refl, h)
both false b h = absurd (cc)
