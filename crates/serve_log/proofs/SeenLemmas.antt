-- All that is written of a text is 32 or more.
use Rattle.std.proofs.Common.{◌≡◌, ◌≤◌, ◌<◌, ◌+◌, ◌/◌, ◌%◌, ◌==◌, ◌&&◌, ◌∙◌, nat_le, nat_lt, ℕ, List, [], ◌∷◌, ◌++◌, Bool, true, false, refl, arith, if◌then◌else◌}
use Rattle.std.proofs.lemmas.Bool.{le-leb, leb-true, ltb-false}
use Rattle.std.proofs.lemmas.List.Folds.{list_all-append}
use Rattle.std.specs.Char.{is_ascii_graphic}
use Rattle.std.specs.List.{list_all}
use Rattle.serve_log.specs.Fields.{all_escaped, escaped, hex_of, is_plain, is_plain_word, is_seen, shown_text}

both : (a b : Bool) → a ≡ true → b ≡ true → (a && b) ≡ true
both true b first second = second
both false b first second = first

false_true : false ≡ true → ⊥
false_true eq = cc eq

left_of : (a b : Bool) → (a && b) ≡ true → a ≡ true
left_of true b is = refl
left_of false b is = is

right_of : (a b : Bool) → (a && b) ≡ true → b ≡ true
right_of true b is = is
right_of false b is = absurd (false_true is)

hex_by : (small : Bool) (digit : ℕ) → is_seen (if small then 48 + digit else 87 + digit) ≡ true
hex_by true digit = le-leb 32 (48 + digit) (omega arith)
hex_by false digit = le-leb 32 (87 + digit) (omega arith)

-- a byte that isn't below 32
not_small : (byte : ℕ) → nat_lt byte 32 ≡ false → is_seen byte ≡ true
not_small byte is = le-leb 32 byte (ltb-false byte 32 is)

escaped_by : (quote slash small last : Bool) (byte high low : ℕ) → (small ≡ false → is_seen byte ≡ true) → is_seen high ≡ true → is_seen low ≡ true
    → list_all is_seen (if quote then 92 ∷ 34 ∷ [] else if slash then 92 ∷ 92 ∷ [] else if small then 92 ∷ 120 ∷ high ∷ low ∷ [] else if last then 92 ∷ 120 ∷ 55 ∷ 102 ∷ [] else byte ∷ []) ≡ true
escaped_by true slash small last byte high low itself first second = refl
escaped_by false true small last byte high low itself first second = refl
escaped_by false false true last byte high low itself first second = both (is_seen high) (is_seen low && true) first (both (is_seen low) true second refl)
escaped_by false false false true byte high low itself first second = refl
escaped_by false false false false byte high low itself first second = both (is_seen byte) true (itself refl) refl

one_seen : (byte : ℕ) → list_all is_seen (escaped byte) ≡ true
unfolding escaped
one_seen byte =
    escaped_by (byte == 34) (byte == 92) (nat_lt byte 32) (byte == 127) byte (hex_of (byte / 16)) (hex_of (byte % 16)) (not_small byte)
    (hex_by (nat_lt (byte / 16) 10) (byte / 16)) (hex_by (nat_lt (byte % 16) 10) (byte % 16))

all_seen : (text : List ℕ) → list_all is_seen (all_escaped text) ≡ true
all_seen [] = refl
all_seen (byte ∷ text) = list_all-append is_seen (escaped byte) (all_escaped text) ∙ both (list_all is_seen (escaped byte)) (list_all is_seen (all_escaped text)) (one_seen byte) (all_seen text)

seen_from : (byte : ℕ) → 33 ≤ byte → 32 ≤ byte
seen_from byte is = omega (arith, is)

graphic_seen : (byte : ℕ) → is_ascii_graphic byte ≡ true → is_seen byte ≡ true
graphic_seen byte is = le-leb 32 byte (seen_from byte (leb-true 33 byte (left_of (nat_le 33 byte) (nat_le byte 126) is)))

plain_by : (quote slash : Bool) (byte : ℕ) → (if quote then false else if slash then false else is_ascii_graphic byte) ≡ true → is_seen byte ≡ true
plain_by true slash byte is = absurd (false_true is)
plain_by false true byte is = absurd (false_true is)
plain_by false false byte is = graphic_seen byte is

plain_seen : (text : List ℕ) → list_all is_plain text ≡ true → list_all is_seen text ≡ true
plain_seen [] is = refl
plain_seen (byte ∷ text) is =
    both (is_seen byte) (list_all is_seen text) (plain_by (byte == 34) (byte == 92) byte (left_of (is_plain byte) (list_all is_plain text) is))
    (plain_seen text (right_of (is_plain byte) (list_all is_plain text) is))

word_seen : (text : List ℕ) → is_plain_word text ≡ true → list_all is_seen text ≡ true
word_seen [] is = refl
word_seen (byte ∷ text) is = plain_seen (byte ∷ text) is

shown_by : (plain : Bool) (text : List ℕ) → (plain ≡ true → list_all is_seen text ≡ true) → list_all is_seen (if plain then text else 34 ∷ (all_escaped text ++ 34 ∷ [])) ≡ true
shown_by true text is = is refl
shown_by false text is = list_all-append is_seen (all_escaped text) (34 ∷ []) ∙ both (list_all is_seen (all_escaped text)) true (all_seen text) refl

-- what is written of a text as a value
pub text_seen : (text : List ℕ) → list_all is_seen (shown_text text) ≡ true
unfolding shown_text
text_seen text = shown_by (is_plain_word text) text (word_seen text)
