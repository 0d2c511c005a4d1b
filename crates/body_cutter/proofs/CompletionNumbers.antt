-- What holds of each state holds after a byte in a reference.
use Rattle.std.proofs.Common.{◌≡◌, ◌∙◌, ◌+◌, ◌*◌, ◌-◌, ◌<◌, ℕ, Bool, true, false, ◌&&◌, List, refl, sym, ap, subst, arith}
use Rattle.std.specs.Prelude.{Option, None, Some, ◌==◌, nat_le, if◌then◌else◌}
use Rattle.std.proofs.lemmas.Bool.{leb-true, and_parts}
use Rattle.std.proofs.lemmas.Bool.Decides.{nat_tests}
use Rattle.body_cutter.specs.declared.place.Place.{Place}
use Rattle.body_cutter.specs.declared.place.Wide.{Wide}
use Rattle.body_cutter.specs.declared.place.Wide.TheVariants.{Whole}
use Rattle.body_cutter.specs.declared.place.Kind.{Kind}
use Rattle.body_cutter.specs.declared.place.Reference.{Reference}
use Rattle.body_cutter.specs.declared.place.Reference.TheVariants.{Begun, L, G, A, Am, Ap, Apo, Q, Qu, Quo, Named, Number, Decimal, HexMark, Hex}
use Rattle.body_cutter.specs.declared.place.ReferenceMove.{ReferenceMove}
use Rattle.body_cutter.specs.declared.place.ReferenceMove.TheVariants.{More, Done}
use Rattle.body_cutter.specs.Chars.{is_allowed, wide_next}
use Rattle.body_cutter.specs.References.{letter, begun_next, letter_a_next, done_if, done_number, decimal_more, hex_more, hex_digit, decimal_next, hex_grown, hex_next, number_next, decimal_or_end, hex_or_end, reference_next}
use Rattle.body_cutter.specs.Reader.{move_of, reference_moved}
use Rattle.body_cutter.proofs.Control.{Control, advance, done}
use Rattle.body_cutter.proofs.SoundReferences.{in_reference}
use Rattle.body_cutter.proofs.CompletionTools.{AllWhole}
use Rattle.body_cutter.proofs.CompletionReferences.{Within}
use Rattle.body_cutter.proofs.CompletionStates.{Sound, Here, InReference}
use Rattle.body_cutter.proofs.CompletionKept.{Kept, Leads, dead, ascii, byte_below}
use Rattle.body_cutter.proofs.CompletionSteps.{place_keeps}

-- what holds of the rest of a reference
abbrev Rests : Wide → Option ReferenceMove → Type 0
Rests v None = Unit {0}
Rests v (Some (More reference)) = (v ≡ Whole) × Within reference
Rests v (Some (Done character)) = v ≡ Whole

record Refers (v : Wide) (o : Option ReferenceMove) : Type 0 where
  rests : Rests v o

no_more : {v : Wide} → Refers v None
no_more = record { rests = tt }

pick : {v : Wide} (t : Bool) (x y : Option ReferenceMove) → (t ≡ true → Refers v x) → (t ≡ false → Refers v y) → Refers v (if t then x else y)
pick true x y f g = f refl
pick false x y f g = g refl

hex_below : (b digit : ℕ) → hex_digit b ≡ Some digit → b < 128
unfolding hex_digit
hex_below b digit h = grind (arith, nat_tests)

module _ (v : Wide) (b : ℕ) (e : wide_next Whole b ≡ Some v) where
  at : (n : ℕ) → n < 128 → (b == n) ≡ true → v ≡ Whole
  at n l t = (ascii b Whole v (byte_below b n l t) e).1

  goes_on : (reference : Reference) → v ≡ Whole → Within reference → Refers v (Some (More reference))
  goes_on reference s h = record { rests = (s, h) }

  one_letter : (n : ℕ) → n < 128 → (reference : Reference) → Within reference → Refers v (letter b n reference)
  unfolding letter
  one_letter n l reference h = pick (b == n) _ _ (λ t. goes_on reference (at n l t) h) (λ _. no_more)

  ends : (value : ℕ) → (b == 59) ≡ true → Refers v (done_number value)
  unfolding done_number
  ends value t = pick (is_allowed value) _ _ (λ _. record { rests = at 59 (omega arith) t }) (λ _. no_more)

  decimal_digit : (value : ℕ) → Refers v (decimal_next value b)
  unfolding decimal_next decimal_more
  decimal_digit value =
      pick (nat_le 48 b && nat_le b 57) _ _
      (λ t. let p = and_parts (nat_le 48 b) (nat_le b 57) t in
      pick (nat_le (value * 10 + (b - 48)) 0x10ffff) _ _
      (λ u. goes_on (Decimal (value * 10 + (b - 48))) ((ascii b Whole v (omega (arith, leb-true b 57 p.1)) e).1) (leb-true (value * 10 + (b - 48)) 0x10ffff u))
      (λ _. no_more))
      (λ _. no_more)

  hex_by : (value : ℕ) (o : Option ℕ) → hex_digit b ≡ o → Refers v (hex_grown value o)
  unfolding hex_more
  hex_by value None f = no_more
  hex_by value (Some digit) f =
      pick (nat_le (value * 16 + digit) 0x10ffff) _ _
      (λ u. goes_on (Hex (value * 16 + digit)) ((ascii b Whole v (hex_below b digit f) e).1) (leb-true (value * 16 + digit) 0x10ffff u))
      (λ _. no_more)

  hex_step : (value : ℕ) → Refers v (hex_next value b)
  unfolding hex_next
  hex_step value = hex_by value (hex_digit b) refl

  reference_keeps : (reference : Reference) → Refers v (reference_next reference b)
  unfolding reference_next begun_next letter_a_next done_if number_next decimal_or_end hex_or_end
  reference_keeps Begun =
      pick (b == 35) _ _ (λ t. goes_on Number (at 35 (omega arith) t) tt)
      (λ _. pick (b == 108) _ _ (λ t. goes_on L (at 108 (omega arith) t) tt)
      (λ _. pick (b == 103) _ _ (λ t. goes_on G (at 103 (omega arith) t) tt)
      (λ _. pick (b == 97) _ _ (λ t. goes_on A (at 97 (omega arith) t) tt)
      (λ _. pick (b == 113) _ _ (λ t. goes_on Q (at 113 (omega arith) t) tt) (λ _. no_more)))))
  reference_keeps L = one_letter 116 (omega arith) (Named 60) tt
  reference_keeps G = one_letter 116 (omega arith) (Named 62) tt
  reference_keeps A =
      pick (b == 109) _ _ (λ t. goes_on Am (at 109 (omega arith) t) tt)
      (λ _. pick (b == 112) _ _ (λ t. goes_on Ap (at 112 (omega arith) t) tt) (λ _. no_more))
  reference_keeps Am = one_letter 112 (omega arith) (Named 38) tt
  reference_keeps Ap = one_letter 111 (omega arith) Apo tt
  reference_keeps Apo = one_letter 115 (omega arith) (Named 39) tt
  reference_keeps Q = one_letter 117 (omega arith) Qu tt
  reference_keeps Qu = one_letter 111 (omega arith) Quo tt
  reference_keeps Quo = one_letter 116 (omega arith) (Named 34) tt
  reference_keeps (Named value) = pick (b == 59) _ _ (λ t. record { rests = at 59 (omega arith) t }) (λ _. no_more)
  reference_keeps Number = pick (b == 120) _ _ (λ t. goes_on HexMark (at 120 (omega arith) t) tt) (λ _. decimal_digit 0)
  reference_keeps (Decimal value) = pick (b == 59) _ _ (λ t. ends value t) (λ _. decimal_digit value)
  reference_keeps HexMark = hex_step 0
  reference_keeps (Hex value) = pick (b == 59) _ _ (λ t. ends value t) (λ _. hex_step value)

-- a reference leaves the place as it is
moved_keeps : (place : Place) (o : Option ReferenceMove) (kind : Kind) (v : Wide) (c : Control) (b : ℕ) → AllWhole c.elements → Here place kind Whole c.elements c.name → Refers v o → Leads kind v c b (reference_moved place o)
unfolding done
moved_keeps place None kind v c b a h r = dead
moved_keeps place (Some (More reference)) kind v c b a h r =
    record { kept = record { names = a; here = subst (λ (x : Wide). Here place kind x c.elements c.name) (sym r.rests.0) h; reference = r.rests } }
moved_keeps place (Some (Done character)) kind v c b a h r =
    record { kept = record { names = a; here = subst (λ (x : Wide). Here place kind x c.elements c.name) (sym r.rests) h; reference = tt } }

by_reference : (place : Place) (o : Option Reference) (kind : Kind) (w v : Wide) (elements : List (List ℕ)) (name : List ℕ) (seen : List (List ℕ)) (b : ℕ) → AllWhole elements → Here place kind w elements name → InReference o w → wide_next w b ≡ Some v →
    Kept kind v (advance kind (record { place = place; reference = o; elements = elements; name = name; seen = seen }) b)
unfolding advance move_of
by_reference place None kind w v elements name seen b a h r e = (place_keeps place kind w v elements name seen b a h e).kept
by_reference place (Some reference) kind w v elements name seen b a h r e =
    (moved_keeps place (reference_next reference b) kind v (in_reference place reference elements name seen) b a (subst (λ (x : Wide). Here place kind x elements name) r.0 h)
    (reference_keeps v b (sym (ap (λ (x : Wide). wide_next x b) r.0) ∙ e) reference)).kept

-- what holds of each state holds after a byte
pub state_keeps : (kind : Kind) (w v : Wide) (c : Control) (b : ℕ) → Sound kind c w → wide_next w b ≡ Some v → Kept kind v (advance kind c b)
state_keeps kind w v c b s e = by_reference c.place c.reference kind w v c.elements c.name c.seen b s.names s.here s.reference e
