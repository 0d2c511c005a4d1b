-- A piece of a text between ASCII bytes is a text.
use Rattle.std.proofs.Common.{◌≡◌, ◌∙◌, ◌+◌, ◌-◌, ◌<◌, ◌≤◌, ℕ, true, false, List, [], ◌∷◌, ◌++◌, length, take, drop, get_or, refl, sym, ap, subst, arith, append_assoc}
use Rattle.std.specs.Prelude.{Option, None, Some, slice_range, IsUtf8, nat_le, nat_lt, ◌&&◌, ◌==◌}
use Rattle.std.specs.Str.{IsCharBoundary}
use Rattle.std.proofs.Math.Seq.{drop-append_seam, take-append_seam, get_or-append_seam}
use Rattle.std.proofs.lemmas.List.{length-append}
use Rattle.std.proofs.lemmas.Str.{IsUtf8-between, IsCharBoundary-before_ascii}
use Rattle.std.proofs.lemmas.Bool.Decides.{nat_tests}
use Rattle.body_cutter.specs.declared.place.Wide.{Wide}
use Rattle.body_cutter.specs.declared.place.Wide.TheVariants.{Whole, One, Two, Three, AfterE0, AfterEd, AfterEf, AfterEfBf, AfterF0, AfterF4}
use Rattle.body_cutter.specs.Chars.{wide_next, after_tail, ends_whole, is_whole}
use Rattle.body_cutter.specs.BodyText.{IsText}

-- the bytes of a piece
pub slice_here : (whole front piece rest : List ℕ) → whole ≡ front ++ (piece ++ rest) → slice_range whole (length whole - length (piece ++ rest)) (length whole - length rest) ≡ piece
slice_here whole front piece rest e =
    let len : length whole ≡ length front + (length piece + length rest) = ap (λ (t : List ℕ). length t) e ∙ length-append front (piece ++ rest) ∙ ap (λ (n : ℕ). length front + n) (length-append piece rest) in
    let start : length whole - length (piece ++ rest) ≡ length front = omega (arith, len, length-append piece rest) in
    let count : (length whole - length rest) - (length whole - length (piece ++ rest)) ≡ length piece = omega (arith, len, length-append piece rest) in
    ap (λ (n : ℕ). take n (drop (length whole - length (piece ++ rest)) whole)) count
    ∙ ap (λ (n : ℕ). take (length piece) (drop n whole)) start
    ∙ ap (λ (t : List ℕ). take (length piece) (drop (length front) t)) e
    ∙ ap (λ (t : List ℕ). take (length piece) t) (drop-append_seam front (piece ++ rest))
    ∙ take-append_seam piece rest

-- before an ASCII byte a character begins
boundary : (whole front rest : List ℕ) (b : ℕ) → b < 128 → whole ≡ front ++ b ∷ rest → IsCharBoundary whole (length front)
boundary whole front rest b h e =
    IsCharBoundary-before_ascii whole (length front)
    (omega (arith, ap (λ (t : List ℕ). length t) e, length-append front (b ∷ rest)))
    (subst (λ (n : ℕ). n < 128) (sym (ap (λ (t : List ℕ). get_or t (length front) 0) e ∙ get_or-append_seam front b rest 0)) h)

below : (low b : ℕ) → 128 ≤ low → b < 128 → nat_le low b ≡ false
below low b l h = grind (arith, nat_tests, l, h)

other : (n b : ℕ) → 128 ≤ n → b < 128 → (b == n) ≡ false
other n b l h = grind (arith, nat_tests, l, h)

no_tail : (low b high : ℕ) (rest next : Wide) → 128 ≤ low → b < 128 → after_tail (nat_le low b && nat_lt b high) rest ≡ Some next → ⊥
no_tail low b high rest next l h e = cc (below low b l h, e)

no_tail_of_ef : (b : ℕ) (next : Wide) → b < 128 → wide_next AfterEf b ≡ Some next → ⊥
unfolding wide_next
no_tail_of_ef b next h e = no_tail 0x80 b 0xbf One next (omega arith) h (rw (other 0xbf b (omega arith) h) at e)

-- no character goes on with an ASCII byte
whole_at : (b : ℕ) → b < 128 → (wide next : Wide) → wide_next wide b ≡ Some next → wide ≡ Whole
unfolding wide_next
whole_at b h Whole next e = refl
whole_at b h One next e = absurd (no_tail 0x80 b 0xc0 Whole next (omega arith) h e)
whole_at b h Two next e = absurd (no_tail 0x80 b 0xc0 One next (omega arith) h e)
whole_at b h Three next e = absurd (no_tail 0x80 b 0xc0 Two next (omega arith) h e)
whole_at b h AfterE0 next e = absurd (no_tail 0xa0 b 0xc0 One next (omega arith) h e)
whole_at b h AfterEd next e = absurd (no_tail 0x80 b 0xa0 One next (omega arith) h e)
whole_at b h AfterEf next e = absurd (no_tail_of_ef b next h e)
whole_at b h AfterEfBf next e = absurd (no_tail 0x80 b 0xbe Whole next (omega arith) h e)
whole_at b h AfterF0 next e = absurd (no_tail 0x90 b 0xc0 Two next (omega arith) h e)
whole_at b h AfterF4 next e = absurd (no_tail 0x80 b 0x90 Two next (omega arith) h e)

-- what is whole before an ASCII byte, and from it on
starts_whole : (b : ℕ) → b < 128 → (rest : List ℕ) (wide : Wide) (o : Option Wide) → wide_next wide b ≡ o → ends_whole wide (b ∷ rest) ≡ true → wide ≡ Whole
unfolding ends_whole
starts_whole b h rest wide None e w = absurd (cc (ap (λ (o : Option Wide). elim o [ None ↦ false | Some next ↦ ends_whole next rest ]) (sym e) ∙ w))
starts_whole b h rest wide (Some next) e w = whole_at b h wide next e

parts_whole : (front : List ℕ) (b : ℕ) → b < 128 → (rest : List ℕ) (wide : Wide) → ends_whole wide (front ++ b ∷ rest) ≡ true → (ends_whole wide front ≡ true) × (ends_whole Whole (b ∷ rest) ≡ true)
unfolding ends_whole
parts_whole [] b h rest wide w =
    let e = starts_whole b h rest wide (wide_next wide b) refl w in
    (ap is_whole e, subst (λ (x : Wide). ends_whole x (b ∷ rest) ≡ true) e w)
parts_whole (x ∷ front) b h rest wide w = goes_on (wide_next wide x) w (λ next k. parts_whole front b h rest next k)
  where
    goes_on : (o : Option Wide) → (elim o [ None ↦ false | Some next ↦ ends_whole next (front ++ b ∷ rest) ]) ≡ true → ((next : Wide) → ends_whole next (front ++ b ∷ rest) ≡ true → (ends_whole next front ≡ true) × (ends_whole Whole (b ∷ rest) ≡ true)) →
        ((elim o [ None ↦ false | Some next ↦ ends_whole next front ]) ≡ true) × (ends_whole Whole (b ∷ rest) ≡ true)
    goes_on None w f = absurd (cc)
    goes_on (Some next) w f = f next w

-- a piece from an ASCII byte on and before another
pub text_piece : (whole front piece rest : List ℕ) (a b : ℕ) → a < 128 → b < 128 → IsText whole → whole ≡ front ++ (a ∷ piece ++ b ∷ rest) → IsText (a ∷ piece)
text_piece whole front piece rest a b ha hb text e =
    let until : whole ≡ (front ++ a ∷ piece) ++ b ∷ rest = e ∙ sym (append_assoc front (a ∷ piece) (b ∷ rest)) in
    let len : length (front ++ a ∷ piece) ≡ length front + length (a ∷ piece) = length-append front (a ∷ piece) in
    let count : length (front ++ a ∷ piece) - length front ≡ length (a ∷ piece) = omega (arith, len) in
    let here : take (length (front ++ a ∷ piece) - length front) (drop (length front) whole) ≡ a ∷ piece =
    ap (λ (n : ℕ). take n (drop (length front) whole)) count
    ∙ ap (λ (t : List ℕ). take (length (a ∷ piece)) (drop (length front) t)) e
    ∙ ap (λ (t : List ℕ). take (length (a ∷ piece)) t) (drop-append_seam front (a ∷ piece ++ b ∷ rest))
    ∙ take-append_seam (a ∷ piece) (b ∷ rest) in
    let between = IsUtf8-between whole (length front) (length (front ++ a ∷ piece)) text.0 (omega (arith, len)) (boundary whole front (piece ++ b ∷ rest) a ha e) (boundary whole (front ++ a ∷ piece) rest b hb until) in
    let from = parts_whole front a ha (piece ++ b ∷ rest) Whole (subst (λ (t : List ℕ). ends_whole Whole t ≡ true) e text.1) in
    (subst (λ (t : List ℕ). IsUtf8 t) here between, (parts_whole (a ∷ piece) b hb rest Whole from.1).0)
