-- What completes a reference.
use Rattle.std.proofs.Common.{◌≡◌, ◌+◌, ◌*◌, ◌<◌, ◌≤◌, ℕ, Bool, true, false, List, ◌∷◌, ◌++◌, refl, arith}
use Rattle.std.specs.Prelude.{Some, nat_lt}
use Rattle.std.proofs.lemmas.Bool.{le-leb, ltb-true, ltb-false}
use Rattle.std.proofs.lemmas.Bool.Decides.{nat_tests}
use Rattle.body_cutter.specs.declared.place.Place.{Place}
use Rattle.body_cutter.specs.declared.place.Wide.TheVariants.{Whole}
use Rattle.body_cutter.specs.declared.place.Kind.{Kind}
use Rattle.body_cutter.specs.declared.place.Reference.{Reference}
use Rattle.body_cutter.specs.declared.place.Reference.TheVariants.{Begun, L, G, A, Am, Ap, Apo, Q, Qu, Quo, Named, Number, Decimal, HexMark, Hex}
use Rattle.body_cutter.specs.Chars.{is_allowed, wide_begin, wide_next}
use Rattle.body_cutter.specs.References.{letter, begun_next, letter_a_next, done_if, done_number, decimal_more, hex_more, hex_digit, decimal_next, hex_next, number_next, decimal_or_end, hex_or_end, reference_next}
use Rattle.body_cutter.specs.Reader.{move_of}
use Rattle.body_cutter.specs.Completion.{number_rest, reference_rest}
use Rattle.body_cutter.proofs.Control.{advance, done}
use Rattle.body_cutter.proofs.Leads.{ctl}
use Rattle.body_cutter.proofs.SoundReferences.{in_reference}
use Rattle.body_cutter.proofs.CompletionTools.{Finishes, by_both}

-- a number so far doesn't pass the greatest code point
abbrev pub Within : Reference → Type 0
Within (Decimal value) = value ≤ 0x10ffff
Within (Hex value) = value ≤ 0x10ffff
Within _ = Unit {0}

-- a number that is no allowed character, but not a small one, is a surrogate or U+FFFE or U+FFFF
far : (n : ℕ) → is_allowed n ≡ false → 32 ≤ n → n ≤ 0x10ffff → (0xd800 ≤ n) × (n ≤ 0xffff)
unfolding is_allowed
far n h low high = grind (arith, nat_tests)

allowed_small : (n : ℕ) → 32 ≤ n → n < 0xd800 → is_allowed n ≡ true
unfolding is_allowed
allowed_small n low high = grind (arith, nat_tests)

allowed_large : (n : ℕ) → 0x10000 ≤ n → n ≤ 0x10ffff → is_allowed n ≡ true
unfolding is_allowed
allowed_large n low high = grind (arith, nat_tests)

module _ (kind : Kind) (place : Place) (elements : List (List ℕ)) (name : List ℕ) (seen : List (List ℕ)) {text : List ℕ} (t : Finishes kind (ctl place elements name seen) Whole text) where
  decimal_ends : (value : ℕ) → is_allowed value ≡ true → Finishes kind (in_reference place (Decimal value) elements name seen) Whole (59 ∷ text)
  unfolding advance move_of reference_next decimal_or_end done_number done wide_next wide_begin
  decimal_ends value a = by_both {next = ctl place elements name seen} (rw a refl) refl t

  decimal_nine : (value : ℕ) {rest : List ℕ} → value * 10 + 9 ≤ 0x10ffff → Finishes kind (in_reference place (Decimal (value * 10 + 9)) elements name seen) Whole rest → Finishes kind (in_reference place (Decimal value) elements name seen) Whole (57 ∷ rest)
  unfolding advance move_of reference_next decimal_or_end decimal_next decimal_more done wide_next wide_begin
  decimal_nine value h k = by_both {next = in_reference place (Decimal (value * 10 + 9)) elements name seen} (rw (le-leb (value * 10 + 9) 0x10ffff h) refl) refl k

  decimal_by : (value : ℕ) (a low : Bool) → is_allowed value ≡ a → nat_lt value 32 ≡ low → value ≤ 0x10ffff → Finishes kind (in_reference place (Decimal value) elements name seen) Whole (number_rest value ++ text)
  unfolding number_rest
  decimal_by value true low e f h = rw e (decimal_ends value e)
  decimal_by value false true e f h =
      rw (e, f) (decimal_nine value (omega (arith, ltb-true value 32 f)) (decimal_nine (value * 10 + 9) (omega (arith, ltb-true value 32 f))
      (decimal_ends ((value * 10 + 9) * 10 + 9) (allowed_small ((value * 10 + 9) * 10 + 9) (omega arith) (omega (arith, ltb-true value 32 f))))))
  decimal_by value false false e f h =
      let g = far value e (ltb-false value 32 f) h in
      rw (e, f) (decimal_nine value (omega (arith, g.1)) (decimal_ends (value * 10 + 9) (allowed_large (value * 10 + 9) (omega (arith, g.0)) (omega (arith, g.1)))))

  hex_ends : (value : ℕ) → is_allowed value ≡ true → Finishes kind (in_reference place (Hex value) elements name seen) Whole (59 ∷ text)
  unfolding advance move_of reference_next hex_or_end done_number done wide_next wide_begin
  hex_ends value a = by_both {next = ctl place elements name seen} (rw a refl) refl t

  hex_nine : (value : ℕ) {rest : List ℕ} → value * 16 + 9 ≤ 0x10ffff → Finishes kind (in_reference place (Hex (value * 16 + 9)) elements name seen) Whole rest → Finishes kind (in_reference place (Hex value) elements name seen) Whole (57 ∷ rest)
  unfolding advance move_of reference_next hex_or_end hex_next hex_digit hex_more done wide_next wide_begin
  hex_nine value h k = by_both {next = in_reference place (Hex (value * 16 + 9)) elements name seen} (rw (le-leb (value * 16 + 9) 0x10ffff h) refl) refl k

  hex_by : (value : ℕ) (a low : Bool) → is_allowed value ≡ a → nat_lt value 32 ≡ low → value ≤ 0x10ffff → Finishes kind (in_reference place (Hex value) elements name seen) Whole (number_rest value ++ text)
  unfolding number_rest
  hex_by value true low e f h = rw e (hex_ends value e)
  hex_by value false true e f h =
      rw (e, f) (hex_nine value (omega (arith, ltb-true value 32 f)) (hex_nine (value * 16 + 9) (omega (arith, ltb-true value 32 f))
      (hex_ends ((value * 16 + 9) * 16 + 9) (allowed_small ((value * 16 + 9) * 16 + 9) (omega arith) (omega (arith, ltb-true value 32 f))))))
  hex_by value false false e f h =
      let g = far value e (ltb-false value 32 f) h in
      rw (e, f) (hex_nine value (omega (arith, g.1)) (hex_ends (value * 16 + 9) (allowed_large (value * 16 + 9) (omega (arith, g.0)) (omega (arith, g.1)))))

  -- the rest of a reference
  pub reference_finishes : (reference : Reference) → Within reference → Finishes kind (in_reference place reference elements name seen) Whole (reference_rest (Some reference) ++ text)
  unfolding advance move_of reference_next begun_next letter_a_next letter done_if done_number number_next decimal_or_end decimal_next decimal_more hex_or_end hex_next hex_digit hex_more done is_allowed reference_rest wide_next wide_begin
  reference_finishes Begun h = by_both refl refl (by_both refl refl (by_both refl refl t))
  reference_finishes L h = by_both refl refl (by_both refl refl t)
  reference_finishes G h = by_both refl refl (by_both refl refl t)
  reference_finishes A h = by_both refl refl (by_both refl refl (by_both refl refl t))
  reference_finishes Am h = by_both refl refl (by_both refl refl t)
  reference_finishes Ap h = by_both refl refl (by_both refl refl (by_both refl refl t))
  reference_finishes Apo h = by_both refl refl (by_both refl refl t)
  reference_finishes Q h = by_both refl refl (by_both refl refl (by_both refl refl (by_both refl refl t)))
  reference_finishes Qu h = by_both refl refl (by_both refl refl (by_both refl refl t))
  reference_finishes Quo h = by_both refl refl (by_both refl refl t)
  reference_finishes (Named value) h = by_both refl refl t
  reference_finishes Number h = by_both refl refl (by_both refl refl t)
  reference_finishes (Decimal value) h = decimal_by value _ _ refl refl h
  reference_finishes HexMark h = by_both refl refl (by_both refl refl t)
  reference_finishes (Hex value) h = hex_by value _ _ refl refl h
