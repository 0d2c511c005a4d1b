-- Texts of allowed characters, byte by byte.
use Rattle.std.proofs.Common.{◌≡◌, ◌<◌, ◌≤◌, ℕ, true, List, [], ◌∷◌, ◌++◌, refl, sym, subst, arith, inl, inr}
use Rattle.std.specs.Char.{encode_utf8}
use Rattle.std.specs.Prelude.{◌⊎◌, ◌↔◌, encode_utf8_all}
use Rattle.std.proofs.Math.Utf8.{scalars}
use Rattle.std.specs.Str.{IsUtf8}
use Rattle.std.specs.List.{list_all}
use Rattle.std.proofs.lemmas.Bool.{cases_lt, and_parts, and_from}
use Rattle.std.proofs.lemmas.Bool.Decides.{nat_tests}
use Rattle.body_cutter.specs.declared.place.Wide.TheVariants.{Whole}
use Rattle.body_cutter.specs.Chars.{is_plain, is_char_byte, is_allowed, ends_whole}
use Rattle.body_cutter.specs.Utf8.{IsUtf8Of, is_tabled}
use Rattle.body_cutter.proofs.Utf8Codes.{encode_one, encode_two, encode_three, encode_four}
use Rattle.body_cutter.proofs.Utf8Bytes.{from_ends}
use Rattle.body_cutter.proofs.Utf8Takes.{characters_taken}

-- what the table takes is exactly the UTF-8 of its characters
pub table_is : (text : List ℕ) → (ends_whole Whole text ≡ true) ↔ IsUtf8Of is_tabled text
table_is text = (λ h. from_ends text Whole h, λ s. subst (λ (xs : List ℕ). ends_whole Whole xs ≡ true) s.spell ((characters_taken s.characters s.pass).is))

scalar_of : (n : ℕ) → is_tabled n ≡ true → scalars (n ∷ []) ≡ true
unfolding is_allowed
scalar_of n h = grind (arith, nat_tests)

all_scalars : (characters : List ℕ) → list_all is_tabled characters ≡ true → scalars characters ≡ true
all_scalars [] h = refl
all_scalars (c ∷ cs) h =
    let p = and_parts (is_tabled c) (list_all is_tabled cs) h in
    and_from _ _ (and_parts _ true (scalar_of c p.0)).0 (all_scalars cs p.1)

-- so it is UTF-8
pub whole_is_utf8 : (text : List ℕ) → ends_whole Whole text ≡ true → IsUtf8 text
whole_is_utf8 text h = let s = (table_is text).0 h in (s.characters, (all_scalars s.characters s.pass, s.spell))

-- every byte is one of an allowed character
pub record Chars (text : List ℕ) : Type 0 where
  pub are : list_all is_char_byte text ≡ true

pub no_chars : Chars []
no_chars = record { are = refl }

pub char_before : {b : ℕ} {text : List ℕ} → is_char_byte b ≡ true → Chars text → Chars (b ∷ text)
char_before {b} {text} e t = record { are = and_from (is_char_byte b) (list_all is_char_byte text) e t.are }

pub chars_split : {b : ℕ} {text : List ℕ} → Chars (b ∷ text) → (is_char_byte b ≡ true) × Chars text
chars_split {b} {text} t = let p = and_parts (is_char_byte b) (list_all is_char_byte text) t.are in (p.0, record { are = p.1 })

chars_after : (bytes : List ℕ) {text : List ℕ} → Chars (bytes ++ text) → Chars text
chars_after [] t = t
chars_after (b ∷ bytes) t = chars_after bytes (chars_split t).1

pub wide_char : (b : ℕ) → 128 ≤ b → is_char_byte b ≡ true
unfolding is_char_byte is_plain
wide_char b h = grind (arith, nat_tests)

plain_char : (n : ℕ) → n < 128 → is_allowed n ≡ true → is_char_byte n ≡ true
unfolding is_char_byte is_plain is_allowed
plain_char n h a = grind (arith, nat_tests)

char_allowed : (n : ℕ) → n < 128 → is_char_byte n ≡ true → is_allowed n ≡ true
unfolding is_char_byte is_plain is_allowed
char_allowed n h a = grind (arith, nat_tests)

tabled_allowed : (n : ℕ) → 128 ≤ n → is_tabled n ≡ true → is_allowed n ≡ true
unfolding is_allowed
tabled_allowed n h t = grind (arith, nat_tests)

allowed_tabled : (n : ℕ) → is_allowed n ≡ true → is_tabled n ≡ true
unfolding is_allowed
allowed_tabled n h = grind (arith, nat_tests)

-- the bytes of a character are those of an allowed one exactly where it is allowed
first_allowed : (n : ℕ) (text : List ℕ) → (n < 128) ⊎ (128 ≤ n) → is_tabled n ≡ true → Chars (encode_utf8 n ++ text) → is_allowed n ≡ true
first_allowed n text (inl low) t h = char_allowed n low (chars_split (subst (λ (xs : List ℕ). Chars (xs ++ text)) (encode_one n low) h)).0
first_allowed n text (inr high) t h = tabled_allowed n high t

all_allowed : (characters : List ℕ) → list_all is_tabled characters ≡ true → Chars (encode_utf8_all characters) → list_all is_allowed characters ≡ true
all_allowed [] t h = refl
all_allowed (c ∷ cs) t h =
    let p = and_parts (is_tabled c) (list_all is_tabled cs) t in
    and_from (is_allowed c) (list_all is_allowed cs) (first_allowed c (encode_utf8_all cs) (cases_lt c 128) p.0 h) (all_allowed cs p.1 (chars_after (encode_utf8 c) h))

more_chars : (n : ℕ) (text : List ℕ) → (n < 128) ⊎ (128 ≤ n) → (n < 2048) ⊎ (2048 ≤ n) → (n < 65536) ⊎ (65536 ≤ n) → is_allowed n ≡ true → Chars text → Chars (encode_utf8 n ++ text)
more_chars n text (inl low) x y a t = subst (λ (xs : List ℕ). Chars (xs ++ text)) (sym (encode_one n low)) (char_before (plain_char n low a) t)
more_chars n text (inr l) (inl h) y a t =
    subst (λ (xs : List ℕ). Chars (xs ++ text)) (sym (encode_two n _ _ l h refl refl)) (char_before (wide_char _ (omega arith)) (char_before (wide_char _ (omega arith)) t))
more_chars n text (inr l) (inr h) (inl k) a t =
    subst (λ (xs : List ℕ). Chars (xs ++ text)) (sym (encode_three n _ _ _ h k refl refl refl))
    (char_before (wide_char _ (omega arith)) (char_before (wide_char _ (omega arith)) (char_before (wide_char _ (omega arith)) t)))
more_chars n text (inr l) (inr h) (inr k) a t =
    subst (λ (xs : List ℕ). Chars (xs ++ text)) (sym (encode_four n _ _ _ _ k refl refl refl refl))
    (char_before (wide_char _ (omega arith)) (char_before (wide_char _ (omega arith)) (char_before (wide_char _ (omega arith)) (char_before (wide_char _ (omega arith)) t))))

all_chars : (characters : List ℕ) → list_all is_allowed characters ≡ true → Chars (encode_utf8_all characters) × (list_all is_tabled characters ≡ true)
all_chars [] h = (no_chars, refl)
all_chars (c ∷ cs) h =
    let p = and_parts (is_allowed c) (list_all is_allowed cs) h in
    let r = all_chars cs p.1 in
    (more_chars c (encode_utf8_all cs) (cases_lt c 128) (cases_lt c 2048) (cases_lt c 65536) p.0 r.0, and_from (is_tabled c) (list_all is_tabled cs) (allowed_tabled c p.0) r.1)

-- bytes of allowed characters that the table takes are the UTF-8 of allowed characters, and no others are
pub allowed_of : (text : List ℕ) → ends_whole Whole text ≡ true → Chars text → IsUtf8Of is_allowed text
allowed_of text h t =
    let s = (table_is text).0 h in
    record { characters = s.characters; pass = all_allowed s.characters s.pass (subst (λ (xs : List ℕ). Chars xs) (sym s.spell) t); spell = s.spell }

pub allowed_is : (text : List ℕ) → IsUtf8Of is_allowed text → (ends_whole Whole text ≡ true) × (list_all is_char_byte text ≡ true)
allowed_is text s =
    let r = all_chars s.characters s.pass in
    ((table_is text).1 (record { characters = s.characters; pass = r.1; spell = s.spell }), (subst (λ (xs : List ℕ). Chars xs) s.spell r.0).are)
