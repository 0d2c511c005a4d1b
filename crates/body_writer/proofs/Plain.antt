-- Values that are written as they are, and names of small letters and colons.
use Rattle.std.proofs.Common.{◌≡◌, ℕ, ◌<◌, Bool, true, false, ◌&&◌, ◌||◌, List, [], ◌∷◌, ◌++◌, refl, sym, subst, arith, rules}
use Rattle.std.specs.Prelude.{IsTrue, nat_lt, nat_le, ◌==◌, not}
use Rattle.std.specs.Fmt.{decimal}
use Rattle.std.specs.Char.{is_ascii_digit}
use Rattle.std.specs.Str.{all_ascii_digits}
use Rattle.std.specs.Str.Parse.{digits_value}
use Rattle.std.proofs.lemmas.Str.Parse.{IsNumeralModel, numerals_by_value}
use Rattle.std.proofs.lemmas.Fmt.{digits_decimal}
use Rattle.std.proofs.lemmas.List.Elements.{All-head, All-tail}
use Rattle.std.proofs.lemmas.Bool.{eqb-true, leb-true}
use Rattle.std.proofs.lemmas.Bool.Decides.{nat_tests}
use Rattle.body_cutter.specs.Chars.{is_char_byte, is_plain, is_digit, is_letter, begins_name_plainly, grows_name_plainly, is_name_start, is_name_byte}
use Rattle.body_cutter.specs.Grammar.{NameRest, Name, is_value_byte}
use Rattle.body_cutter.specs.BodyText.{IsText}
use Rattle.body_cutter.specs.Built.{Spells}
use Rattle.body_cutter.proofs.Spelling.{spells_nothing, spells_itself}
use Rattle.body_writer.specs.ReadBack.{IsWord, IsKey, is_key_digit}
use Rattle.body_cutter.proofs.Leads.{both}
use Rattle.body_writer.proofs.Fresh.{denied}
use Rattle.body_writer.proofs.Texts.{all_ascii, texts_ascii}

abbrev pub is_plain_byte : ℕ → Bool
is_plain_byte b = nat_le 32 b && (nat_lt b 128 && (not (b == 38) && (not (b == 60) && not (b == 39))))

abbrev pub all_plain : List ℕ → Bool
all_plain [] = true
all_plain (b ∷ bytes) = is_plain_byte b && all_plain bytes

pair : (a b : Bool) → a ≡ true → b ≡ true → a && b ≡ true
pair true b h k = k
pair false b h k = h

record PlainByte (b : ℕ) : Type 0 where
  from : nat_le 32 b ≡ true
  below : nat_lt b 128 ≡ true
  ampersand : (b == 38) ≡ false
  less : (b == 60) ≡ false
  apostrophe : (b == 39) ≡ false

plain_byte : (b : ℕ) → is_plain_byte b ≡ true → PlainByte b
plain_byte b h =
    let first = both (nat_le 32 b) _ h in
    let second = both (nat_lt b 128) _ first.1 in
    let third = both (not (b == 38)) _ second.1 in
    let fourth = both (not (b == 60)) _ third.1 in
    record { from = first.0; below = second.0; ampersand = denied (b == 38) third.0; less = denied (b == 60) fourth.0; apostrophe = denied (b == 39) fourth.1 }

unlike : (b n : ℕ) → nat_le 32 b ≡ true → n < 32 → (b == n) ≡ false
unlike b n from low = grind (arith, nat_tests, leb-true 32 b from, low)

char_byte : (b : ℕ) → PlainByte b → is_char_byte b ≡ true
unfolding is_char_byte is_plain
char_byte b p = rw (unlike b 9 p.from (omega arith), unlike b 10 p.from (omega arith), unlike b 13 p.from (omega arith), p.from, p.below) refl

value_byte : (b : ℕ) → PlainByte b → is_value_byte 39 b ≡ true
value_byte b p = rw (char_byte b p, p.ampersand, p.less, p.apostrophe) refl

-- plain bytes spell themselves
pub spells_plainly : (value : List ℕ) → all_plain value ≡ true → Spells value value
spells_plainly [] h = spells_nothing
spells_plainly (b ∷ value) h =
    let k = both (is_plain_byte b) (all_plain value) h in
    let p = plain_byte b k.0 in
    spells_itself value value b (value_byte b p) (unlike b 9 p.from (omega arith)) (unlike b 10 p.from (omega arith)) (unlike b 13 p.from (omega arith)) (spells_plainly value k.1)

plain_ascii : (value : List ℕ) → all_plain value ≡ true → all_ascii value ≡ true
plain_ascii [] h = refl
plain_ascii (b ∷ value) h =
    let k = both (is_plain_byte b) (all_plain value) h in
    pair (nat_lt b 128) (all_ascii value) (plain_byte b k.0).below (plain_ascii value k.1)

-- and are a text
pub plain_text : (value : List ℕ) → all_plain value ≡ true → IsText value
plain_text value h = texts_ascii value (plain_ascii value h)

pub plain-append : (value other : List ℕ) → all_plain value ≡ true → all_plain other ≡ true → all_plain (value ++ other) ≡ true
plain-append [] other h k = k
plain-append (b ∷ value) other h k =
    let l = both (is_plain_byte b) (all_plain value) h in
    pair (is_plain_byte b) (all_plain (value ++ other)) l.0 (plain-append value other l.1 k)

digit_plain : (b : ℕ) → is_ascii_digit b ≡ true → is_plain_byte b ≡ true
digit_plain b h = grind (arith, nat_tests, h)

digits_plain : (digits : List ℕ) → all_ascii_digits digits ≡ true → all_plain digits ≡ true
digits_plain [] h = refl
digits_plain (b ∷ digits) h =
    let k = both (is_ascii_digit b) (all_ascii_digits digits) h in
    pair (is_plain_byte b) (all_plain digits) (digit_plain b k.0) (digits_plain digits k.1)

own : IsNumeralModel (λ ds. all_ascii_digits ds ≡ true) (digits_value 10)
own = numerals_by_value _ (search rules)

-- a number
pub decimal_plain : (n : ℕ) → IsWord n → all_plain (decimal n) ≡ true
decimal_plain n small = digits_plain (decimal n) (digits_decimal own n small)

key_digit_plain : (b : ℕ) → is_key_digit b ≡ true → is_plain_byte b ≡ true
unfolding is_digit
key_digit_plain b h = grind (arith, nat_tests, h)

-- a key
pub key_plain : (key : List ℕ) → IsKey key → all_plain key ≡ true
key_plain [] are = refl
key_plain (b ∷ key) are =
    pair (is_plain_byte b) (all_plain key) (key_digit_plain b (All-head (λ byte. IsTrue (is_key_digit byte)) b key are))
    (key_plain key (All-tail (λ byte. IsTrue (is_key_digit byte)) b key are))

-- a small letter or a colon
abbrev is_simple : ℕ → Bool
is_simple b = b == 58 || (nat_le 97 b && nat_le b 122)

abbrev all_simple : List ℕ → Bool
all_simple [] = true
all_simple (b ∷ bytes) = is_simple b && all_simple bytes

abbrev pub is_simple_name : List ℕ → Bool
is_simple_name [] = false
is_simple_name (b ∷ bytes) = is_simple b && all_simple bytes

simple_start : (b : ℕ) (colon : Bool) → (b == 58) ≡ colon → is_simple b ≡ true → begins_name_plainly b ≡ true
unfolding begins_name_plainly is_letter
simple_start b true e h = subst (λ (x : ℕ). (((nat_le 65 x && nat_le x 90) || (nat_le 97 x && nat_le x 122)) || x == 95 || x == 58) ≡ true) (sym (eqb-true b 58 e)) refl
simple_start b false e h =
    let letter : nat_le 97 b && nat_le b 122 ≡ true = (rw e at h) in
    let k = both (nat_le 97 b) (nat_le b 122) letter in
    let from : nat_le 65 b ≡ true = grind (arith, nat_tests, leb-true 97 b k.0) in
    let past : nat_le b 90 ≡ false = grind (arith, nat_tests, leb-true 97 b k.0) in
    rw (from, past, k.0, k.1) refl

begins : (b : ℕ) → is_simple b ≡ true → is_name_start b ≡ true
unfolding is_name_start
begins b h = rw (simple_start b (b == 58) refl h) refl

grows : (b : ℕ) → is_simple b ≡ true → is_name_byte b ≡ true
unfolding is_name_byte grows_name_plainly
grows b h = rw (simple_start b (b == 58) refl h) refl

simple_rest : (name : List ℕ) → all_simple name ≡ true → NameRest name name []
simple_rest [] h = NameRest.none
simple_rest (b ∷ name) h =
    let k = both (is_simple b) (all_simple name) h in
    NameRest.more (grows b k.0) (simple_rest name k.1)

-- a simple name is a name
pub simple_name : (name : List ℕ) → is_simple_name name ≡ true → Name name name []
simple_name [] h = cc
simple_name (b ∷ name) h =
    let k = both (is_simple b) (all_simple name) h in
    Name.begins (begins b k.0) (simple_rest name k.1)

simple_plain : (b : ℕ) → is_simple b ≡ true → is_plain_byte b ≡ true
simple_plain b h = grind (arith, nat_tests, h)

all_simple_plain : (bytes : List ℕ) → all_simple bytes ≡ true → all_plain bytes ≡ true
all_simple_plain [] h = refl
all_simple_plain (b ∷ bytes) h =
    let k = both (is_simple b) (all_simple bytes) h in
    pair (is_plain_byte b) (all_plain bytes) (simple_plain b k.0) (all_simple_plain bytes k.1)

-- and a text
pub name_text : (name : List ℕ) → is_simple_name name ≡ true → IsText name
name_text [] h = cc
name_text (b ∷ name) h = plain_text (b ∷ name) (all_simple_plain (b ∷ name) h)
