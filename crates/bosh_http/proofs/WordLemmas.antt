-- The parts of a list, and the number that digits state.
use Rattle.std.proofs.Common.{◌≡◌, ℕ, ◌+◌, ◌-◌, ◌*◌, ◌^◌, ◌<◌, ◌≤◌, ◌==◌, ◌&&◌, ◌||◌, List, [], ◌∷◌, Bool, true, false, Some, None, if◌then◌else◌, nat_lt, nat_le, length, take, drop, get_or, position, add-one, refl, sym, ◌∙◌, ap, subst, arith, lit<}
use Rattle.std.proofs.lemmas.Bool.{ltb-true}
use Rattle.std.proofs.lemmas.Bool.Decides.{nat_tests}
use Rattle.std.proofs.lemmas.List.{drop-drop}
use Rattle.std.proofs.lemmas.List.Sums.{fails_before_first, AllPass-from_list_all}
use Rattle.std.proofs.lemmas.List.Splits.{slice_split_first, slice_split_none}
use Rattle.std.proofs.Math.Nat.{pow-le-pow_right, pow-suc}
use Rattle.std.specs.Char.{is_ascii_digit, digit_value}
use Rattle.std.specs.List.{position_or_len, list_all, list_any}
use Rattle.std.specs.Str.{str_eq_ignore_ascii_case}
use Rattle.httparse.specs.Grammar.{trim_ows}
use Rattle.bosh_http.specs.Fields.{parts_of, has_word, is_length}

abbrev pub is_comma : ℕ → Bool
is_comma byte = byte == 44

abbrev is_word : List ℕ → List ℕ → Bool
is_word word part = str_eq_ignore_ascii_case word (trim_ows part)

found : (here : Bool) (n i : ℕ) → (if here then Some n else None) ≡ Some i → (here ≡ true) × (n ≡ i)
found true n i is = (refl, cc)
found false n i is = cc

not_found : (here : Bool) (n : ℕ) → (if here then Some n else None) ≡ None → here ≡ false
not_found true n is = cc
not_found false n is = refl

-- the first part ends at the first comma
pub first_part : (bytes : List ℕ) (i : ℕ) → position is_comma bytes ≡ Some i → (i < length bytes) × (parts_of bytes ≡ take i bytes ∷ parts_of (drop (i + 1) bytes))
first_part bytes i is =
    let f = found (nat_lt (position_or_len is_comma bytes) (length bytes)) (position_or_len is_comma bytes) i is in
    let within : position_or_len is_comma bytes < length bytes = ltb-true (position_or_len is_comma bytes) (length bytes) f.0 in
    subst (λ k. (k < length bytes) × (parts_of bytes ≡ take k bytes ∷ parts_of (drop (k + 1) bytes))) f.1 (within, slice_split_first is_comma bytes 0 within)

-- where there is no comma, all of it is one part
pub one_part : (bytes : List ℕ) → position is_comma bytes ≡ None → parts_of bytes ≡ bytes ∷ []
one_part bytes none =
    let past : nat_lt (position_or_len is_comma bytes) (length bytes) ≡ false = not_found (nat_lt (position_or_len is_comma bytes) (length bytes)) (position_or_len is_comma bytes) none in
    let all : length bytes ≤ position_or_len is_comma bytes = grind (arith, nat_tests) in
    slice_split_none is_comma bytes (λ k d inside. fails_before_first is_comma bytes k d (omega (arith, inside, all)))

-- the first part is the word
pub word_here : (word bytes part : List ℕ) (i : ℕ) → position is_comma bytes ≡ Some i → part ≡ trim_ows (take i bytes) → str_eq_ignore_ascii_case word part ≡ true → true ≡ has_word word bytes
word_here word bytes part i is trimmed same =
    let test : str_eq_ignore_ascii_case word (trim_ows (take i bytes)) ≡ true = ap (str_eq_ignore_ascii_case word) (sym trimmed) ∙ same in
    sym (ap (list_any (is_word word)) (first_part bytes i is).1 ∙ ap (λ b. b || list_any (is_word word) (parts_of (drop (i + 1) bytes))) test)

-- it isn't, so the word stands later or nowhere
pub word_later : (word bytes part : List ℕ) (i : ℕ) → position is_comma bytes ≡ Some i → part ≡ trim_ows (take i bytes) → str_eq_ignore_ascii_case word part ≡ false → has_word word bytes ≡ has_word word (drop 1 (drop i bytes))
word_later word bytes part i is trimmed other =
    let test : str_eq_ignore_ascii_case word (trim_ows (take i bytes)) ≡ false = ap (str_eq_ignore_ascii_case word) (sym trimmed) ∙ other in
    ap (list_any (is_word word)) (first_part bytes i is).1
    ∙ ap (λ b. b || list_any (is_word word) (parts_of (drop (i + 1) bytes))) test
    ∙ ap (has_word word) (sym (drop-drop 1 i bytes))

-- all of it is one part
pub word_last : (word bytes part : List ℕ) → position is_comma bytes ≡ None → part ≡ trim_ows bytes → str_eq_ignore_ascii_case word part ≡ has_word word bytes
word_last word bytes part none trimmed =
    sym (ap (list_any (is_word word)) (one_part bytes none) ∙ or_false (str_eq_ignore_ascii_case word (trim_ows bytes)) ∙ ap (str_eq_ignore_ascii_case word) (sym trimmed))
  where
    or_false : (b : Bool) → (b || false) ≡ b
    or_false true = refl
    or_false false = refl

-- with one digit more it stays below the next power of 10
pub below_power : (i n digit : ℕ) → n < 10 ^ i → digit ≤ 9 → n * 10 + digit < 10 ^ (i + 1)
below_power i n digit low single = rw (add-one, pow-suc 10 i) (omega (arith, low, single))

-- after at most 17 digits one more fits
pub fits_power : (i n : ℕ) → n < 10 ^ i → i < 18 → n < 10 ^ 17
fits_power i n low few =
    let most : 10 ^ i ≤ 10 ^ 17 = pow-le-pow_right {n = 10} (lit< tt) {i = i} {j = 17} (omega (arith, few)) in
    omega (arith, low, most)

three : (a b c : Bool) → (a && b && c) ≡ true → (b ≡ true) × (c ≡ true)
three true true true is = (refl, refl)
three true true false is = cc
three true false c is = cc
three false b c is = cc

digit_is : (c : ℕ) → is_ascii_digit c ≡ true → (digit_value c ≡ c - 48) × (c - 48 ≤ 9)
digit_is c is =
    let low : 48 ≤ c = grind (arith, nat_tests) in
    let high : c ≤ 57 = grind (arith, nat_tests) in
    (grind (arith, nat_tests), omega (arith, high))

-- a digit of at most 18
pub digit_at : (digits : List ℕ) (i : ℕ) → is_length digits ≡ true → i < length digits → (i < 18) × (digit_value (get_or digits i 0) ≡ get_or digits i 0 - 48) × (get_or digits i 0 - 48 ≤ 9)
digit_at digits i is inside =
    let parts = three (nat_le 1 (length digits)) (nat_le (length digits) 18) (list_all is_ascii_digit digits) is in
    let short : length digits ≤ 18 = grind (arith, nat_tests, parts.0) in
    let value = digit_is (get_or digits i 0) (AllPass-from_list_all is_ascii_digit digits parts.1 i 0 inside) in
    (omega (arith, inside, short), value.0, value.1)
