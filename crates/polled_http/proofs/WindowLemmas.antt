-- What is shown of a text of several parts.
use Rattle.std.proofs.Common.{◌≡◌, ℕ, ◌+◌, ◌-◌, ◌<◌, ◌≤◌, ◌*◌, ◌^◌, ◌⊎◌, inl, inr, List, [], ◌++◌, length, take, drop, false, sym, ◌∙◌, ap, ap₂, append_assoc, arith}
use Rattle.std.proofs.lemmas.Bool.{cases_lt}
use Rattle.std.proofs.lemmas.List.{drop-append-le, length-append, length-drop, take-append-drop}
use Rattle.std.proofs.lemmas.Grind.{common_steps}
use Rattle.std.proofs.Math.Seq.{drop-append-add}
use Rattle.polled_http.specs.Windows.{Shows, ShowsMore}

drop_past : (n : ℕ) (xs : List ℕ) → length xs ≤ n → drop n xs ≡ []
drop_past n xs past = grind (arith, common_steps)

-- what stands behind so many bytes of two texts
pub drop_both : (n : ℕ) (xs ys : List ℕ) → drop n (xs ++ ys) ≡ drop n xs ++ drop (n - length xs) ys
drop_both n xs ys = by_size (cases_lt n (length xs))
  where
    by_size : (n < length xs) ⊎ (length xs ≤ n) → drop n (xs ++ ys) ≡ drop n xs ++ drop (n - length xs) ys
    by_size (inl short) =
        let none : n - length xs ≡ 0 = omega (arith, short) in
        drop-append-le n xs ys (omega (arith, short)) ∙ ap (λ k. drop n xs ++ drop k ys) (sym none)
    by_size (inr long) =
        let whole : n ≡ length xs + (n - length xs) = omega (arith, long) in
        ap (λ k. drop k (xs ++ ys)) whole ∙ drop-append-add xs ys (n - length xs) ∙ ap (λ l. l ++ drop (n - length xs) ys) (sym (drop_past n xs long))

-- some bytes are shown, and others aren't
pub shows_some : (before shown bytes : List ℕ) (n : ℕ) → shown ≡ before ++ take n bytes → n < length bytes → 0 < length shown → ShowsMore before shown bytes false
shows_some before shown bytes n is less some = (
  drop n bytes,
  ap (λ l. before ++ l) (sym (take-append-drop n bytes)) ∙ sym (append_assoc before (take n bytes) (drop n bytes)) ∙ ap (λ l. l ++ drop n bytes) (sym is),
  some,
  rw (length-drop n bytes) (omega (arith, less)),
)

-- one more part is shown
pub shows_part : (place skip : ℕ) (before part room shown rest : List ℕ) → room ≡ drop place before → skip ≡ place - length before → rest ≡ drop skip part → shown ≡ room ++ rest
    → shown ≡ drop place (before ++ part)
shows_part place skip before part room shown rest room_is skip_is rest_is is =
    is ∙ ap₂ (λ a b. a ++ b) room_is (rest_is ∙ ap (λ k. drop k part) skip_is) ∙ sym (drop_both place before part)

pub skips_part : (place skip left : ℕ) (before part : List ℕ) → skip ≡ place - length before → left ≡ skip - length part → left ≡ place - length (before ++ part)
skips_part place skip left before part skip_is left_is = omega (arith, skip_is, left_is, length-append before part)

-- a place in some parts is a number of 128 bits
pub place_fits : (place skip i : ℕ) (before part room shown rest : List ℕ) → room ≡ drop place before → skip ≡ place - length before → rest ≡ drop skip part → ShowsMore room shown rest false
    → i < 2 ^ 64 → length before ≤ i * 18446744073709551615 → length part < 2 ^ 64 → place + length shown < 2 ^ 128
place_fits place skip i before part room shown rest room_is skip_is rest_is (left, is, some, more) few small one =
    let first : length room ≡ length before - place = ap length room_is ∙ length-drop place before in
    let last : length rest ≡ length part - skip = ap length rest_is ∙ length-drop skip part in
    let parts : length room + length rest ≡ length shown + length left = sym (length-append room rest) ∙ ap length is ∙ length-append shown left in
    omega (arith, some, few, small, one, first, last, parts, skip_is)

pub parts_small : (i : ℕ) (before part : List ℕ) → length before ≤ i * 18446744073709551615 → length part < 2 ^ 64 → length (before ++ part) ≤ (i + 1) * 18446744073709551615
parts_small i before part small one = omega (arith, small, one, length-append before part)

-- parts are shown from a place on, and no room is left in the next one
pub shows_cut : (place skip : ℕ) (before part others room shown rest : List ℕ) → room ≡ drop place before → skip ≡ place - length before → rest ≡ drop skip part
    → ShowsMore room shown rest false → Shows (drop place ((before ++ part) ++ others)) shown false
shows_cut place skip before part others room shown rest room_is skip_is rest_is (left, is, some, more) = (
  left ++ drop (place - length (before ++ part)) others,
  drop_both place (before ++ part) others
      ∙ ap (λ l. l ++ drop (place - length (before ++ part)) others)
      (drop_both place before part ∙ ap₂ (λ a b. a ++ b) (sym room_is) (ap (λ k. drop k part) (sym skip_is) ∙ sym rest_is) ∙ is)
      ∙ append_assoc shown left (drop (place - length (before ++ part)) others),
  some,
  rw (length-append left (drop (place - length (before ++ part)) others)) (omega (arith, more)),
)
