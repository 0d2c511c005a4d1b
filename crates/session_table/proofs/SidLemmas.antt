-- The number at the end of a session's name.
use Rattle.std.proofs.Common.{◌≡◌, ◌^◌, ◌≤◌, ◌<◌, ◌+◌, ◌-◌, ℕ, Bool, true, false, List, [], ◌∷◌, Result, Ok, length, get_or, drop, refl, sym, ◌∙◌, ap, subst, length-append, arith}
use Rattle.std.proofs.Math.Seq.{drop-append_seam}
use Rattle.std.proofs.lemmas.List.{get_or_append_left, get_or-append_right}
use Rattle.std.proofs.lemmas.Bool.Decides.{nat_tests}
use Rattle.std.proofs.lemmas.Fmt.{IsAscii-decimal, decimal_injective, digits_decimal, parse-decimal}
use Rattle.std.proofs.lemmas.Str.{IsUtf8-from_ascii}
use Rattle.std.proofs.lemmas.Str.Parse.{IsNumeralModel, numerals_by_value, tells_by_index}
use Rattle.std.specs.Char.{is_ascii_digit}
use Rattle.std.specs.Fmt.{decimal}
use Rattle.std.specs.Int.{IsInRange}
use Rattle.std.specs.Str.{IsUtf8}
use Rattle.std.specs.Str.Parse.{ParsesUnsigned, digits_value}
use Rattle.server_ports.specs.Names.{IsNamePart, last_is_digit}
use Rattle.session_table.specs.Sids.{EndsInDigits, IsSidOf, highest_number, sid_of}

own : IsNumeralModel (λ ds. (i : ℕ) → i < length ds → IsInRange 48 57 (get_or ds i 0)) (digits_value 10)
own = numerals_by_value _ tells_by_index

in_range : (c : ℕ) → IsInRange 48 57 c → is_ascii_digit c ≡ true
in_range c r = grind (arith, nat_tests, r)

digit_at : (number k : ℕ) → number < 2 ^ 64 → k < length (decimal number) → is_ascii_digit (get_or (decimal number) k 0) ≡ true
digit_at number k small in_it = in_range _ (digits_decimal own number small k in_it)

-- the last byte tells whether a digit is last
last_at : (before : Bool) (byte : ℕ) (bytes : List ℕ) → last_is_digit before (byte ∷ bytes) ≡ is_ascii_digit (get_or (byte ∷ bytes) (length bytes) 0)
last_at before byte [] = refl
last_at before byte (next ∷ bytes) = last_at (is_ascii_digit byte) next bytes

no_digit_last : (part : List ℕ) → 1 ≤ length part → last_is_digit false part ≡ false → is_ascii_digit (get_or part (length part - 1) 0) ≡ false
no_digit_last [] some plain = absurd (omega arith)
no_digit_last (byte ∷ bytes) some plain =
    let at : length (byte ∷ bytes) - 1 ≡ length bytes = omega arith in
    ap (λ k. is_ascii_digit (get_or (byte ∷ bytes) k 0)) at ∙ (sym (last_at false byte bytes) ∙ plain)

opposite : {b : Bool} → b ≡ true → b ≡ false → ⊥
opposite yes_ no_ = cc

module _ (part : List ℕ) (number : ℕ) (is : IsNamePart part) (small : number < 2 ^ 64) where
  -- where the digits at the end begin
  starts_after : (digits : List ℕ) (e : EndsInDigits (sid_of part number) digits) → e.start ≡ length part
  starts_after digits e =
      let text : List ℕ = sid_of part number in
      let len : length text ≡ length part + length (decimal number) = length-append part (decimal number) in
      let early : e.start < length part → ⊥ =
      λ less. opposite (e.all (length part - 1) (omega arith) (omega (arith, is.some)))
      (ap is_ascii_digit (get_or_append_left part (decimal number) 0 (length part - 1) (omega (arith, is.some))) ∙ no_digit_last part is.some is.unnumbered) in
      let late : length part < e.start → ⊥ =
      λ more. opposite
      (ap is_ascii_digit (get_or-append_right part (decimal number) (length part) (e.start - 1) 0 refl (omega arith))
      ∙ digit_at number (e.start - 1 - length part) small (omega (arith, e.within)))
      (e.before (e.start - 1) (omega arith)) in
      omega (arith, early, late)

  pub ends_in_number : (text digits : List ℕ) → text ≡ sid_of part number → EndsInDigits text digits → digits ≡ decimal number
  ends_in_number text digits text_is e =
      let e' : EndsInDigits (sid_of part number) digits = subst (λ t. EndsInDigits t digits) text_is e in
      e'.digits_are ∙ ap (λ k. drop k (sid_of part number)) (starts_after digits e') ∙ drop-append_seam part (decimal number)

small_opening : (number : ℕ) → number ≤ highest_number → number < 2 ^ 64
small_opening number few = omega arith

-- what the digits at the end of a name are
pub digits_of_sid : (sid digits : List ℕ) (number : ℕ) → number ≤ highest_number → IsSidOf sid number → EndsInDigits sid digits → digits ≡ decimal number
digits_of_sid sid digits number few is e = ends_in_number is.0 number is.1 (small_opening number few) sid digits is.2 e

pub digits_are_utf8 : (sid digits : List ℕ) (number : ℕ) → number ≤ highest_number → IsSidOf sid number → EndsInDigits sid digits → IsUtf8 digits
digits_are_utf8 sid digits number few is e =
    subst IsUtf8 (sym (digits_of_sid sid digits number few is e)) (IsUtf8-from_ascii _ (IsAscii-decimal number (small_opening number few)))

pub digits_parse : {E : Type 0} (sid digits text : List ℕ) (number : ℕ) (parsed : Result ℕ E) → number ≤ highest_number → IsSidOf sid number
    → EndsInDigits sid digits → text ≡ digits → ParsesUnsigned 64 10 text parsed → parsed ≡ Ok number
digits_parse sid digits text number parsed few is e text_is parses =
    parse-decimal 64 number text parsed (small_opening number few) (small_opening number few) (text_is ∙ digits_of_sid sid digits number few is e) parses

-- the digits of a name's number are those at its end
ends_of : (part : List ℕ) (number : ℕ) → IsNamePart part → number < 2 ^ 64 → EndsInDigits (sid_of part number) (decimal number)
ends_of part number is small = record {
  start = length part;
  within = omega (arith, length-append part (decimal number));
  digits_are = sym (drop-append_seam part (decimal number));
  all = λ k from in_it. ap is_ascii_digit (get_or-append_right part (decimal number) (length part) k 0 refl from)
      ∙ digit_at number (k - length part) small (omega (arith, length-append part (decimal number)));
  before = λ k last. ap is_ascii_digit (get_or_append_left part (decimal number) 0 k (omega arith))
      ∙ (ap (λ i. is_ascii_digit (get_or part i 0)) (before_length k last) ∙ no_digit_last part is.some is.unnumbered);
}
  where
    before_length : (k : ℕ) → k + 1 ≡ length part → k ≡ length part - 1
    before_length k last = omega arith

-- a name has one number
pub one_number : (sid : List ℕ) (m n : ℕ) → m ≤ highest_number → n ≤ highest_number → IsSidOf sid m → IsSidOf sid n → m ≡ n
one_number sid m n few few' is is' =
    let ends : EndsInDigits sid (decimal m) = subst (λ s. EndsInDigits s (decimal m)) (sym is.2) (ends_of is.0 m is.1 (small_opening m few)) in
    decimal_injective m n (small_opening m few) (small_opening n few') (digits_of_sid sid (decimal m) n few' is' ends)
