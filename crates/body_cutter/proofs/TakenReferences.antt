-- References of the grammar are taken.
use Rattle.std.proofs.Common.{◌≡◌, ◌∙◌, ◌+◌, ◌*◌, ◌-◌, ◌≤◌, ℕ, Bool, true, false, List, ◌∷◌, refl, sym, ap, arith, zero-add}
use Rattle.std.specs.Prelude.{None, Some, ◌==◌, encode_utf8}
use Rattle.std.proofs.lemmas.Bool.{eqb-true, le-leb}
use Rattle.std.proofs.lemmas.Bool.Decides.{nat_tests}
use Rattle.body_cutter.specs.declared.place.Place.{Place}
use Rattle.body_cutter.specs.declared.place.Kind.{Kind}
use Rattle.body_cutter.specs.declared.place.Reference.{Reference}
use Rattle.body_cutter.specs.declared.place.Reference.TheVariants.{Begun, Named, Decimal, Hex}
use Rattle.body_cutter.specs.Chars.{is_digit, is_allowed}
use Rattle.body_cutter.specs.References.{letter, begun_next, letter_a_next, done_if, done_number, decimal_more, hex_more, hex_digit, decimal_next, hex_next, number_next, decimal_or_end, hex_or_end, reference_next}
use Rattle.body_cutter.specs.Names.{around}
use Rattle.body_cutter.specs.Reader.{State, move_of, next_move, acted, is_body_tag}
use Rattle.body_cutter.specs.Grammar.{Digits, HexDigits, ReferenceRest}
use Rattle.body_cutter.specs.Parts.{decimal_number, hex_number, character_of}
use Rattle.body_cutter.proofs.Flow.{Words, Kept, Taken, by_byte, proceed, state, st}
use Rattle.body_cutter.proofs.Folds.{grown}
use Rattle.body_cutter.proofs.Taken.{differs, value_grown}

-- no allowed character is past the greatest code point
allowed_bound : (n : ℕ) → is_allowed n ≡ true → n ≤ 0x10ffff
unfolding is_allowed
allowed_bound n h = grind (arith, nat_tests)

digits_bound : {value : ℕ} {text rest : List ℕ} → Digits value text rest → value ≤ 0x10ffff
digits_bound {value} (Digits.ends a) = allowed_bound value a
digits_bound (Digits.more e d) = omega (arith, digits_bound d)

hex_bound : {value : ℕ} {text rest : List ℕ} → HexDigits value text rest → value ≤ 0x10ffff
hex_bound {value} (HexDigits.ends a) = allowed_bound value a
hex_bound (HexDigits.more e d) = omega (arith, hex_bound d)

-- `;` is no hexadecimal digit
hex_differs : (b digit : ℕ) (t : Bool) → (b == 59) ≡ t → hex_digit b ≡ Some digit → (b == 59) ≡ false
unfolding hex_digit
hex_differs b digit true e h = absurd (absurd_of (sym (ap hex_digit (eqb-true b 59 e)) ∙ h))
  where
    absurd_of : None ≡ Some digit → ⊥
    absurd_of h = cc
hex_differs b digit false e h = e

module _ (len : ℕ) (kind : Kind) (place : Place) (elements : List (List ℕ)) (w : Words) (k : Kept) (body : Bool) (tag : is_body_tag (around kind elements) ≡ body) (end : Kept) where
  -- inside a reference, and after it
  abbrev inside : Reference → State
  inside reference = state kind place (Some reference) elements w k

  abbrev over : ℕ → State
  over character = st kind place elements w (grown body (encode_utf8 character) k)

  digits_taken : {value : ℕ} {text rest : List ℕ} (d : Digits value text rest) → Taken len (over (decimal_number d)) rest end → Taken len (inside (Decimal value)) text end
  unfolding proceed next_move acted move_of reference_next decimal_or_end done_number decimal_next decimal_more is_digit decimal_number
  digits_taken {value} (Digits.ends a) t = by_byte {next = over value} (rw (a, value_grown kind place (Some (Decimal value)) elements w k body tag (encode_utf8 value)) refl) t
  digits_taken {value} (Digits.more {b = b} e d) t =
      by_byte {next = inside (Decimal (value * 10 + (b - 48)))}
      (rw (differs is_digit b 59 e refl, e, le-leb (value * 10 + (b - 48)) 0x10ffff (digits_bound d)) refl) (digits_taken d t)

  hex_taken : {value : ℕ} {text rest : List ℕ} (d : HexDigits value text rest) → Taken len (over (hex_number d)) rest end → Taken len (inside (Hex value)) text end
  unfolding proceed next_move acted move_of reference_next hex_or_end done_number hex_next hex_more hex_number
  hex_taken {value} (HexDigits.ends a) t = by_byte {next = over value} (rw (a, value_grown kind place (Some (Hex value)) elements w k body tag (encode_utf8 value)) refl) t
  hex_taken {value} (HexDigits.more {b = b} {digit = digit} e d) t =
      by_byte {next = inside (Hex (value * 16 + digit))}
      (rw (hex_differs b digit (b == 59) refl e, e, le-leb (value * 16 + digit) 0x10ffff (hex_bound d)) refl) (hex_taken d t)

  -- the `;` of a name
  named_taken : (character : ℕ) {rest : List ℕ} → Taken len (over character) rest end → Taken len (inside (Named character)) (59 ∷ rest) end
  unfolding proceed next_move acted move_of reference_next done_if
  named_taken character t = by_byte {next = over character} (rw (value_grown kind place (Some (Named character)) elements w k body tag (encode_utf8 character)) refl) t

  pub reference_taken : {text rest : List ℕ} (r : ReferenceRest text rest) → Taken len (over (character_of r)) rest end → Taken len (inside Begun) text end
  unfolding proceed next_move acted move_of reference_next begun_next letter_a_next letter number_next decimal_next decimal_more hex_next hex_more is_digit character_of
  reference_taken ReferenceRest.lt t = by_byte refl (by_byte refl (named_taken 60 t))
  reference_taken ReferenceRest.gt t = by_byte refl (by_byte refl (named_taken 62 t))
  reference_taken ReferenceRest.amp t = by_byte refl (by_byte refl (by_byte refl (named_taken 38 t)))
  reference_taken ReferenceRest.apos t = by_byte refl (by_byte refl (by_byte refl (by_byte refl (named_taken 39 t))))
  reference_taken ReferenceRest.quot t = by_byte refl (by_byte refl (by_byte refl (by_byte refl (named_taken 34 t))))
  reference_taken (ReferenceRest.decimal {b = b} e d) t =
      by_byte refl (by_byte {next = inside (Decimal (b - 48))}
      (rw (differs is_digit b 120 e refl, e, zero-add (b - 48), le-leb (b - 48) 0x10ffff (digits_bound d)) refl) (digits_taken d t))
  reference_taken (ReferenceRest.hex {b = b} {digit = digit} e d) t =
      by_byte refl (by_byte refl (by_byte {next = inside (Hex digit)}
      (rw (e, zero-add digit, le-leb digit 0x10ffff (hex_bound d)) refl) (hex_taken d t)))
