-- Attributes with the names that they may have, block by block.
use Rattle.std.proofs.Common.{◌≡◌, ℕ, true, List, [], ◌∷◌, ◌++◌, refl, sym, subst, append_assoc, append-nil}
use Rattle.std.specs.Fmt.{decimal}
use Rattle.std.specs.List.{All}
use Rattle.std.proofs.lemmas.List.Elements.{All-nil, All-cons, All-append, All-head, All-tail}
use Rattle.body_cutter.specs.BodyText.{IsText}
use Rattle.body_cutter.specs.Built.{Written, IsWritten, attributes_text}
use Rattle.body_writer.specs.Rows.{value_row, number_row, text_row}
use Rattle.body_writer.specs.ReadBack.{IsAllowed, IsWord}
use Rattle.body_cutter.proofs.Utf8Allowed.{allowed_is}
use Rattle.body_writer.proofs.Texts.{text_append, texts_ascii}
use Rattle.body_writer.proofs.Escapes.{escaped_spells, escaped_text}
use Rattle.body_writer.proofs.Plain.{all_plain, spells_plainly, plain_text, decimal_plain, is_simple_name, simple_name, name_text}
use Rattle.body_writer.proofs.Fresh.{Among}

-- an attribute that reads back, of texts
pub record Sound (a : Written) : Type 0 where
  pub written : IsWritten a
  pub name : IsText a.name
  pub spelling : IsText a.spelling

-- attributes and the names that they may have; they read back where this holds
pub record Block (Holds : Type 0) (rows : List Written) (names : List (List ℕ)) : Type 0 where
  pub sound : Holds → All Sound rows
  pub among : (more : List Written) (others : List (List ℕ)) → Among more others → Among (rows ++ more) (names ++ others)

skipped : (names : List (List ℕ)) (more : List Written) (others : List (List ℕ)) → Among more others → Among more (names ++ others)
skipped [] more others a = a
skipped (name ∷ names) more others a = Among.skip (skipped names more others a)

pub block_none : {Holds : Type 0} (names : List (List ℕ)) → Block Holds [] names
block_none names = record { sound = λ h. All-nil Sound; among = skipped names }

block_one : {Holds : Type 0} (a : Written) → (Holds → Sound a) → Block Holds (a ∷ []) (a.name ∷ [])
block_one a sound = record { sound = λ h. All-cons Sound a [] (sound h) (All-nil Sound); among = λ more others k. Among.keep refl k }

pub block_plain : {Holds : Type 0} (name value : List ℕ) → is_simple_name name ≡ true → (Holds → all_plain value ≡ true) → Block Holds (value_row name value ∷ []) (name ∷ [])
block_plain name value n v =
    block_one (value_row name value)
    (λ h. record { written = record { name = simple_name name n; value = spells_plainly value (v h) }; name = name_text name n; spelling = plain_text value (v h) })

pub block_value : {Holds : Type 0} (name value : List ℕ) → is_simple_name name ≡ true → all_plain value ≡ true → Block Holds (value_row name value ∷ []) (name ∷ [])
block_value name value n v = block_plain name value n (λ h. v)

pub block_number : {Holds : Type 0} (name : List ℕ) (number : ℕ) → is_simple_name name ≡ true → (Holds → IsWord number) → Block Holds (number_row name number ∷ []) (name ∷ [])
block_number name number n small = block_plain name (decimal number) n (λ h. decimal_plain number (small h))

text_sound : (name text : List ℕ) → is_simple_name name ≡ true → IsAllowed text → Sound (text_row name text)
text_sound name text n is =
    let allowed = allowed_is text is in
    record { written = record { name = simple_name name n; value = escaped_spells text allowed.1 }; name = name_text name n; spelling = escaped_text text allowed.0 }

pub block_text : {Holds : Type 0} (name text : List ℕ) → is_simple_name name ≡ true → (Holds → IsAllowed text) → Block Holds (text_row name text ∷ []) (name ∷ [])
block_text name text n is = block_one (text_row name text) (λ h. text_sound name text n (is h))

joins : (rows more last : List Written) (names others ends : List (List ℕ)) → Among (rows ++ (more ++ last)) (names ++ (others ++ ends)) → Among (rows ++ more ++ last) (names ++ others ++ ends)
joins rows more last names others ends a =
    subst (λ (xs : List Written). Among xs (names ++ others ++ ends)) (sym (append_assoc rows more last))
    (subst (λ (ns : List (List ℕ)). Among (rows ++ (more ++ last)) ns) (sym (append_assoc names others ends)) a)

-- one block after the other
pub block_both : {Holds : Type 0} {rows more : List Written} {names others : List (List ℕ)} → Block Holds rows names → Block Holds more others → Block Holds (rows ++ more) (names ++ others)
block_both {rows = rows} {more = more} {names = names} {others = others} one two = record {
  sound = λ h. All-append Sound rows more (one.sound h) (two.sound h);
  among = λ last ends k. joins rows more last names others ends (one.among (more ++ last) (others ++ ends) (two.among last ends k));
}

pub all_among : {Holds : Type 0} {rows : List Written} {names : List (List ℕ)} → Block Holds rows names → Among rows names
all_among {rows = rows} {names = names} all =
    subst (λ (xs : List Written). Among xs names) (append-nil rows)
    (subst (λ (ns : List (List ℕ)). Among (rows ++ []) ns) (append-nil names) (all.among [] [] Among.none))

-- what is written of attributes is a text
pub chain_text : (rows : List Written) (rest : List ℕ) → All Sound rows → IsText rest → IsText (attributes_text rows rest)
chain_text [] rest sound is = is
chain_text (a ∷ rows) rest sound is =
    let one = All-head Sound a rows sound in
    let more = chain_text rows rest (All-tail Sound a rows sound) is in
    text_append (32 ∷ []) _ (texts_ascii (32 ∷ []) refl)
    (text_append a.name _ one.name
    (text_append (61 ∷ 39 ∷ []) _ (texts_ascii (61 ∷ 39 ∷ []) refl)
    (text_append a.spelling _ one.spelling
    (text_append (39 ∷ []) _ (texts_ascii (39 ∷ []) refl) more))))
