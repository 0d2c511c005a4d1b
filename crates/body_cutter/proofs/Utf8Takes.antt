-- The UTF-8 of characters is what the table of bytes takes.
use Rattle.std.proofs.Common.{◌≡◌, ◌∙◌, ◌+◌, ◌<◌, ◌≤◌, ℕ, true, false, ◌&&◌, List, [], ◌∷◌, ◌++◌, refl, sym, ap, subst, arith, inl, inr}
use Rattle.std.specs.Char.{encode_utf8}
use Rattle.std.specs.Prelude.{◌⊎◌, ◌/◌, ◌%◌, nat_lt, nat_le, Option, None, Some, encode_utf8_all}
use Rattle.std.specs.List.{list_all}
use Rattle.std.proofs.lemmas.Bool.{lt-ltb, le-ltb, le-leb, ne_eqb, cases_lt, and_parts}
use Rattle.body_cutter.specs.declared.place.Wide.{Wide}
use Rattle.body_cutter.specs.declared.place.Wide.TheVariants.{Whole, One, Two, Three, AfterE0, AfterEd, AfterEf, AfterEfBf, AfterF0, AfterF4}
use Rattle.body_cutter.specs.Chars.{wide_begin, wide_next, ends_whole}
use Rattle.body_cutter.specs.Utf8.{is_tabled}
use Rattle.body_cutter.proofs.Utf8Codes.{encode_one, encode_two, encode_three, encode_four, ranges_of}

-- these bytes end whole characters after this one
pub record Takes (w : Wide) (text : List ℕ) : Type 0 where
  pub is : ends_whole w text ≡ true

pub byte_taken : {w next : Wide} {b : ℕ} {text : List ℕ} → wide_next w b ≡ Some next → Takes next text → Takes w (b ∷ text)
unfolding ends_whole
byte_taken {w} {next} {b} {text} e t = record { is = ap (λ (o : Option Wide). elim o [ None ↦ false | Some next ↦ ends_whole next text ]) e ∙ t.is }

range_passes : (low high b : ℕ) → low ≤ b → b < high → (nat_le low b && nat_lt b high) ≡ true
range_passes low high b l h = rw (le-leb low b l, lt-ltb b high h) refl

-- the first byte of a character
pub begins_one : (b : ℕ) → b < 128 → wide_next Whole b ≡ Some Whole
unfolding wide_next wide_begin
begins_one b h = rw (lt-ltb b 128 h) refl

begins_two : (b : ℕ) → 0xc2 ≤ b → b < 0xe0 → wide_next Whole b ≡ Some One
unfolding wide_next wide_begin
begins_two b l h = rw (le-ltb b 0x80 (omega (arith, l)), le-ltb b 0xc2 l, lt-ltb b 0xe0 h) refl

begins_three : (b : ℕ) → 0xe0 < b → b < 0xf0 → (b ≡ 0xed → ⊥) → (b ≡ 0xef → ⊥) → wide_next Whole b ≡ Some Two
unfolding wide_next wide_begin
begins_three b l h p q =
    rw (le-ltb b 0x80 (omega (arith, l)), le-ltb b 0xc2 (omega (arith, l)), le-ltb b 0xe0 (omega (arith, l)), ne_eqb b 0xe0 (λ e. omega (arith, l, e)), ne_eqb b 0xed p, ne_eqb b 0xef q, lt-ltb b 0xf0 h) refl

begins_four : (b : ℕ) → 0xf0 < b → b < 0xf4 → wide_next Whole b ≡ Some Three
unfolding wide_next wide_begin
begins_four b l h =
    rw (le-ltb b 0x80 (omega (arith, l)), le-ltb b 0xc2 (omega (arith, l)), le-ltb b 0xe0 (omega (arith, l)), ne_eqb b 0xe0 (λ e. omega (arith, l, e)), ne_eqb b 0xed (λ e. omega (arith, l, e)), ne_eqb b 0xef (λ e. omega (arith, l, e)), le-ltb b 0xf0 (omega (arith, l)), ne_eqb b 0xf0 (λ e. omega (arith, l, e)), lt-ltb b 0xf4 h) refl

begins_at : (b n : ℕ) (w : Wide) → b ≡ n → wide_next Whole n ≡ Some w → wide_next Whole b ≡ Some w
begins_at b n w e h = ap (wide_next Whole) e ∙ h

-- the bytes after it
one_more : {text : List ℕ} (b : ℕ) → 0x80 ≤ b → b < 0xc0 → Takes Whole text → Takes One (b ∷ text)
unfolding wide_next
one_more b l h t = byte_taken (rw (range_passes 0x80 0xc0 b l h) refl) t

two_more : {text : List ℕ} (b c : ℕ) → 0x80 ≤ b → b < 0xc0 → 0x80 ≤ c → c < 0xc0 → Takes Whole text → Takes Two (b ∷ c ∷ text)
unfolding wide_next
two_more b c l h m k t = byte_taken (rw (range_passes 0x80 0xc0 b l h) refl) (one_more c m k t)

after_e0 : {text : List ℕ} (b c : ℕ) → 0xa0 ≤ b → b < 0xc0 → 0x80 ≤ c → c < 0xc0 → Takes Whole text → Takes AfterE0 (b ∷ c ∷ text)
unfolding wide_next
after_e0 b c l h m k t = byte_taken (rw (range_passes 0xa0 0xc0 b l h) refl) (one_more c m k t)

after_ed : {text : List ℕ} (b c : ℕ) → 0x80 ≤ b → b < 0xa0 → 0x80 ≤ c → c < 0xc0 → Takes Whole text → Takes AfterEd (b ∷ c ∷ text)
unfolding wide_next
after_ed b c l h m k t = byte_taken (rw (range_passes 0x80 0xa0 b l h) refl) (one_more c m k t)

after_ef : {text : List ℕ} (b c : ℕ) → 0x80 ≤ b → b < 0xbf → 0x80 ≤ c → c < 0xc0 → Takes Whole text → Takes AfterEf (b ∷ c ∷ text)
unfolding wide_next
after_ef b c l h m k t = byte_taken (rw (ne_eqb b 0xbf (λ e. omega (arith, h, e)), range_passes 0x80 0xbf b l h) refl) (one_more c m k t)

after_ef_bf : {text : List ℕ} (b c : ℕ) → b ≡ 0xbf → 0x80 ≤ c → c < 0xbe → Takes Whole text → Takes AfterEf (b ∷ c ∷ text)
unfolding wide_next
after_ef_bf {text} b c e m k t = subst (λ (x : ℕ). Takes AfterEf (x ∷ c ∷ text)) (sym e) (byte_taken {next = AfterEfBf} refl (byte_taken (rw (range_passes 0x80 0xbe c m k) refl) t))

three_more : {text : List ℕ} (b c d : ℕ) → 0x80 ≤ b → b < 0xc0 → 0x80 ≤ c → c < 0xc0 → 0x80 ≤ d → d < 0xc0 → Takes Whole text → Takes Three (b ∷ c ∷ d ∷ text)
unfolding wide_next
three_more b c d l h m k n o t = byte_taken (rw (range_passes 0x80 0xc0 b l h) refl) (two_more c d m k n o t)

after_f0 : {text : List ℕ} (b c d : ℕ) → 0x90 ≤ b → b < 0xc0 → 0x80 ≤ c → c < 0xc0 → 0x80 ≤ d → d < 0xc0 → Takes Whole text → Takes AfterF0 (b ∷ c ∷ d ∷ text)
unfolding wide_next
after_f0 b c d l h m k n o t = byte_taken (rw (range_passes 0x90 0xc0 b l h) refl) (two_more c d m k n o t)

after_f4 : {text : List ℕ} (b c d : ℕ) → 0x80 ≤ b → b < 0x90 → 0x80 ≤ c → c < 0xc0 → 0x80 ≤ d → d < 0xc0 → Takes Whole text → Takes AfterF4 (b ∷ c ∷ d ∷ text)
unfolding wide_next
after_f4 b c d l h m k n o t = byte_taken (rw (range_passes 0x80 0x90 b l h) refl) (two_more c d m k n o t)

-- a character of three bytes, b before the others
three_taken : (n b c d : ℕ) {text : List ℕ} → 0x800 ≤ n → (n < 0xd800) ⊎ ((0xe000 ≤ n) × (n ≤ 0xfffd)) → b ≡ 224 + n / 4096 → c ≡ 128 + (n / 64) % 64 → d ≡ 128 + n % 64 → Takes Whole text → Takes Whole (b ∷ c ∷ d ∷ text)
unfolding wide_next wide_begin
three_taken n b c d {text} least (inl below) e f g t = low (cases_lt n 0x1000) (cases_lt n 0xd000)
  where
    low : (n < 0x1000) ⊎ (0x1000 ≤ n) → (n < 0xd000) ⊎ (0xd000 ≤ n) → Takes Whole (b ∷ c ∷ d ∷ text)
    low (inl h) x = byte_taken (begins_at b 0xe0 AfterE0 (omega arith) refl) (after_e0 c d (omega arith) (omega arith) (omega arith) (omega arith) t)
    low (inr l) (inl h) = byte_taken (begins_three b (omega arith) (omega arith) (λ x. omega arith) (λ x. omega arith)) (two_more c d (omega arith) (omega arith) (omega arith) (omega arith) t)
    low (inr l) (inr h) = byte_taken (begins_at b 0xed AfterEd (omega arith) refl) (after_ed c d (omega arith) (omega arith) (omega arith) (omega arith) t)
three_taken n b c d {text} least (inr (above, most)) e f g t = high (cases_lt n 0xf000) (cases_lt n 0xffc0)
  where
    high : (n < 0xf000) ⊎ (0xf000 ≤ n) → (n < 0xffc0) ⊎ (0xffc0 ≤ n) → Takes Whole (b ∷ c ∷ d ∷ text)
    high (inl h) x = byte_taken (begins_three b (omega arith) (omega arith) (λ x. omega arith) (λ x. omega arith)) (two_more c d (omega arith) (omega arith) (omega arith) (omega arith) t)
    high (inr l) (inl h) = byte_taken (begins_at b 0xef AfterEf (omega arith) refl) (after_ef c d (omega arith) (omega arith) (omega arith) (omega arith) t)
    high (inr l) (inr h) = byte_taken (begins_at b 0xef AfterEf (omega arith) refl) (after_ef_bf c d (omega arith) (omega arith) (omega arith) t)

four_taken : (n b c d x : ℕ) {text : List ℕ} → 0x10000 ≤ n → n ≤ 0x10ffff → b ≡ 240 + n / 262144 → c ≡ 128 + (n / 4096) % 64 → d ≡ 128 + (n / 64) % 64 → x ≡ 128 + n % 64 → Takes Whole text → Takes Whole (b ∷ c ∷ d ∷ x ∷ text)
unfolding wide_next wide_begin
four_taken n b c d x {text} least most e f g i t = by (cases_lt n 0x40000) (cases_lt n 0x100000)
  where
    by : (n < 0x40000) ⊎ (0x40000 ≤ n) → (n < 0x100000) ⊎ (0x100000 ≤ n) → Takes Whole (b ∷ c ∷ d ∷ x ∷ text)
    by (inl h) y = byte_taken (begins_at b 0xf0 AfterF0 (omega arith) refl) (after_f0 c d x (omega arith) (omega arith) (omega arith) (omega arith) (omega arith) (omega arith) t)
    by (inr l) (inl h) = byte_taken (begins_four b (omega arith) (omega arith)) (three_more c d x (omega arith) (omega arith) (omega arith) (omega arith) (omega arith) (omega arith) t)
    by (inr l) (inr h) = byte_taken (begins_at b 0xf4 AfterF4 (omega arith) refl) (after_f4 c d x (omega arith) (omega arith) (omega arith) (omega arith) (omega arith) (omega arith) t)

before : {bytes other : List ℕ} (text : List ℕ) → bytes ≡ other → Takes Whole (other ++ text) → Takes Whole (bytes ++ text)
before {bytes} {other} text e t = subst (λ (xs : List ℕ). Takes Whole (xs ++ text)) (sym e) t

-- a character of the table
character_taken : (n : ℕ) {text : List ℕ} → (n < 0xd800) ⊎ (((0xe000 ≤ n) × (n ≤ 0xfffd)) ⊎ ((0x10000 ≤ n) × (n ≤ 0x10ffff))) → Takes Whole text → Takes Whole (encode_utf8 n ++ text)
character_taken n {text} (inl low) t = by (cases_lt n 128) (cases_lt n 2048)
  where
    by : (n < 128) ⊎ (128 ≤ n) → (n < 2048) ⊎ (2048 ≤ n) → Takes Whole (encode_utf8 n ++ text)
    by (inl h) x = before text (encode_one n h) (byte_taken (begins_one n h) t)
    by (inr l) (inl h) = before text (encode_two n _ _ l h refl refl) (byte_taken (begins_two (192 + n / 64) (omega arith) (omega arith)) (one_more (128 + n % 64) (omega arith) (omega arith) t))
    by (inr l) (inr h) = before text (encode_three n _ _ _ h (omega arith) refl refl refl) (three_taken n _ _ _ h (inl low) refl refl refl t)
character_taken n {text} (inr (inl r)) t = before text (encode_three n _ _ _ (omega (arith, r.0)) (omega (arith, r.1)) refl refl refl) (three_taken n _ _ _ (omega (arith, r.0)) (inr r) refl refl refl t)
character_taken n {text} (inr (inr r)) t = before text (encode_four n _ _ _ _ r.0 refl refl refl refl) (four_taken n _ _ _ _ r.0 r.1 refl refl refl refl t)

-- characters of the table
pub characters_taken : (characters : List ℕ) → list_all is_tabled characters ≡ true → Takes Whole (encode_utf8_all characters)
unfolding ends_whole
characters_taken [] h = record { is = refl }
characters_taken (c ∷ cs) h = let p = and_parts (is_tabled c) (list_all is_tabled cs) h in character_taken c (ranges_of c p.0) (characters_taken cs p.1)
