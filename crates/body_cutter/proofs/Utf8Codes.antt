-- The bytes of one character, as numbers.
use Rattle.std.proofs.Common.{◌≡◌, ◌∙◌, ◌+◌, ◌-◌, ◌*◌, ◌<◌, ◌≤◌, ℕ, Bool, true, ◌&&◌, List, [], ◌∷◌, ◌++◌, refl, ap, arith}
use Rattle.std.specs.Char.{encode_utf8}
use Rattle.std.specs.Prelude.{◌/◌, ◌%◌, ◌⊎◌, encode_utf8_all}
use Rattle.std.specs.List.{list_all}
use Rattle.std.proofs.lemmas.Bool.{lt-ltb, le-ltb}
use Rattle.std.proofs.lemmas.Bool.Decides.{nat_tests}
use Rattle.body_cutter.specs.Chars.{is_allowed}
use Rattle.body_cutter.specs.Utf8.{IsUtf8Of, is_tabled}

-- the text is the UTF-8 of characters that the reader's table has
abbrev pub Tabled : List ℕ → Type 0
Tabled text = IsUtf8Of is_tabled text

-- the bytes of a character, as those of RFC 3629
pub encode_one : (n : ℕ) → n < 128 → encode_utf8 n ≡ n ∷ []
unfolding encode_utf8
encode_one n h = rw (lt-ltb n 128 h) refl

-- equal bytes
two_same : {a b c d : ℕ} → a ≡ b → c ≡ d → let r : List ℕ = b ∷ d ∷ [] in a ∷ c ∷ [] ≡ r
two_same e f = cc

three_same : {a b c d x y : ℕ} → a ≡ b → c ≡ d → x ≡ y → let r : List ℕ = b ∷ d ∷ y ∷ [] in a ∷ c ∷ x ∷ [] ≡ r
three_same e f g = cc

four_same : {a b c d x y u v : ℕ} → a ≡ b → c ≡ d → x ≡ y → u ≡ v → let r : List ℕ = b ∷ d ∷ y ∷ v ∷ [] in a ∷ c ∷ x ∷ u ∷ [] ≡ r
four_same e f g h = cc

pub encode_two : (n b c : ℕ) → 128 ≤ n → n < 2048 → 192 + n / 64 ≡ b → 128 + n % 64 ≡ c → encode_utf8 n ≡ b ∷ c ∷ []
unfolding encode_utf8
encode_two n b c low high e f = rw (le-ltb n 128 low, lt-ltb n 2048 high) (two_same e f)

pub encode_three : (n b c d : ℕ) → 2048 ≤ n → n < 65536 → 224 + n / 4096 ≡ b → 128 + (n / 64) % 64 ≡ c → 128 + n % 64 ≡ d → encode_utf8 n ≡ b ∷ c ∷ d ∷ []
unfolding encode_utf8
encode_three n b c d low high e f g = rw (le-ltb n 128 (omega (arith, low)), le-ltb n 2048 low, lt-ltb n 65536 high) (three_same e f g)

pub encode_four : (n b c d e : ℕ) → 65536 ≤ n → 240 + n / 262144 ≡ b → 128 + (n / 4096) % 64 ≡ c → 128 + (n / 64) % 64 ≡ d → 128 + n % 64 ≡ e → encode_utf8 n ≡ b ∷ c ∷ d ∷ e ∷ []
unfolding encode_utf8
encode_four n b c d e low p q r s = rw (le-ltb n 128 (omega (arith, low)), le-ltb n 2048 (omega (arith, low)), le-ltb n 65536 low) (four_same p q r s)

-- which characters the table has
pub tabled_ascii : (n : ℕ) → n < 128 → is_tabled n ≡ true
tabled_ascii n h = rw (lt-ltb n 128 h) refl

pub tabled_low : (n : ℕ) → 128 ≤ n → n < 0xd800 → is_tabled n ≡ true
unfolding is_allowed
tabled_low n low high = grind (arith, nat_tests)

pub tabled_middle : (n : ℕ) → 0xe000 ≤ n → n ≤ 0xfffd → is_tabled n ≡ true
unfolding is_allowed
tabled_middle n low high = grind (arith, nat_tests)

pub tabled_high : (n : ℕ) → 0x10000 ≤ n → n ≤ 0x10ffff → is_tabled n ≡ true
unfolding is_allowed
tabled_high n low high = grind (arith, nat_tests)

-- the ranges of the table
pub record Ranges (n : ℕ) : Type 0 where
  pub is : (n < 0xd800) ⊎ (((0xe000 ≤ n) × (n ≤ 0xfffd)) ⊎ ((0x10000 ≤ n) × (n ≤ 0x10ffff)))

pub ranges_of : (n : ℕ) → is_tabled n ≡ true → (n < 0xd800) ⊎ (((0xe000 ≤ n) × (n ≤ 0xfffd)) ⊎ ((0x10000 ≤ n) × (n ≤ 0x10ffff)))
unfolding is_allowed
ranges_of n h = grind (arith, nat_tests)

-- a text with one character more
pub with_character : {passes : ℕ → Bool} (n : ℕ) {bytes text : List ℕ} → passes n ≡ true → encode_utf8 n ≡ bytes → IsUtf8Of passes text → IsUtf8Of passes (bytes ++ text)
with_character {passes} n {bytes} {text} p e s =
    record { characters = n ∷ s.characters; pass = ap (λ (t : Bool). t && list_all passes s.characters) p ∙ s.pass; spell = ap (λ (xs : List ℕ). xs ++ encode_utf8_all s.characters) e ∙ ap (λ (xs : List ℕ). bytes ++ xs) s.spell }

-- the code of a character of two, three and four bytes
abbrev pub code_two : ℕ → ℕ → ℕ
code_two b c = (b - 192) * 64 + (c - 128)

abbrev pub code_three : ℕ → ℕ → ℕ → ℕ
code_three b c d = (b - 224) * 4096 + (c - 128) * 64 + (d - 128)

abbrev pub code_four : ℕ → ℕ → ℕ → ℕ → ℕ
code_four b c d e = (b - 240) * 262144 + (c - 128) * 4096 + (d - 128) * 64 + (e - 128)

pub two_bytes : (b c : ℕ) {text : List ℕ} → 0xc2 ≤ b → b < 0xe0 → 0x80 ≤ c → c < 0xc0 → Tabled text → Tabled (b ∷ c ∷ text)
two_bytes b c low high l h s =
    with_character (code_two b c) (tabled_low (code_two b c) (omega arith) (omega arith))
    (encode_two (code_two b c) b c (omega arith) (omega arith) (omega arith) (omega arith)) s

pub three_bytes : (b c d : ℕ) {text : List ℕ} → 0xe0 ≤ b → b < 0xf0 → 0x80 ≤ c → c < 0xc0 → 0x80 ≤ d → d < 0xc0 → 0x800 ≤ code_three b c d → is_tabled (code_three b c d) ≡ true → Tabled text → Tabled (b ∷ c ∷ d ∷ text)
three_bytes b c d low high l h m k least t s =
    with_character (code_three b c d) t
    (encode_three (code_three b c d) b c d least (omega arith) (omega arith) (omega arith) (omega arith)) s

pub four_bytes : (b c d e : ℕ) {text : List ℕ} → 0xf0 ≤ b → b < 0xf5 → 0x80 ≤ c → c < 0xc0 → 0x80 ≤ d → d < 0xc0 → 0x80 ≤ e → e < 0xc0 → 0x10000 ≤ code_four b c d e → code_four b c d e ≤ 0x10ffff → Tabled text → Tabled (b ∷ c ∷ d ∷ e ∷ text)
four_bytes b c d e low high l h m k o p least most s =
    with_character (code_four b c d e) (tabled_high (code_four b c d e) least most)
    (encode_four (code_four b c d e) b c d e least (omega arith) (omega arith) (omega arith) (omega arith)) s
