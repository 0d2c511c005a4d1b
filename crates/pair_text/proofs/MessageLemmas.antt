-- The messages of a load are stanzas.
use Rattle.std.proofs.Common.{◌≡◌, ◌≤◌, ◌<◌, ℕ, ◌+◌, List, [], ◌∷◌, ◌++◌, length, length-append, true, false, refl, subst, sym, ap, arith}
use Rattle.std.specs.Prelude.{◌^◌, IsTrue, codes}
use Rattle.std.specs.Fmt.{decimal}
use Rattle.std.proofs.lemmas.Fmt.{length-decimal-le}
use Rattle.body_cutter.specs.BodyText.{HasElementParts, IsStanza, IsText, IsWithinLimits}
use Rattle.body_cutter.specs.Chars.{is_name_byte, is_name_start, is_space}
use Rattle.body_cutter.specs.Chars as chars
use Rattle.body_cutter.specs.Grammar.{Element, Name, NameRest, Single, Spaces, TagRest, is_quote}
use Rattle.body_cutter.specs.Names.{has_name}
use Rattle.body_cutter.specs.Parts.{Parts, count_of, depth_of, most_in_element, single_parts}
use Rattle.body_writer.proofs.Plain.{all_plain, decimal_plain, plain-append, plain_text, spells_plainly}
use Rattle.body_writer.proofs.Texts.{text_append, texts_ascii}
use Rattle.pair_text.specs.Load.{message_text}

-- `<message id='VALUE'/>`
abbrev message_with : List ℕ → List ℕ
message_with value = codes "<message id='" ++ (value ++ codes "'/>")

module _ (value : List ℕ) (plain : all_plain value ≡ true) where
  id_name : Name (codes "id") (codes "id" ++ 61 ∷ 39 ∷ (value ++ codes "'/>")) (61 ∷ 39 ∷ (value ++ codes "'/>"))
  unfolding is_name_start is_name_byte chars.begins_name_plainly chars.is_letter chars.grows_name_plainly
  id_name =
      let i : is_name_start 105 ≡ true = refl in
      let d : is_name_byte 100 ≡ true = refl in
      Name.begins i (NameRest.more d NameRest.none)

  message_name : (rest : List ℕ) → Name (codes "message") (codes "message" ++ rest) rest
  unfolding is_name_start is_name_byte chars.begins_name_plainly chars.is_letter chars.grows_name_plainly
  message_name rest =
      let m : is_name_start 109 ≡ true = refl in
      let e : is_name_byte 101 ≡ true = refl in
      let s : is_name_byte 115 ≡ true = refl in
      let a : is_name_byte 97 ≡ true = refl in
      let g : is_name_byte 103 ≡ true = refl in
      Name.begins m (NameRest.more e (NameRest.more s (NameRest.more s (NameRest.more a (NameRest.more g (NameRest.more e NameRest.none))))))

  tag : TagRest [] false true (codes " id='" ++ (value ++ codes "'/>")) []
  unfolding is_space has_name
  tag =
      let space : is_space 32 ≡ true = refl in
      let quote : is_quote 39 ≡ true = refl in
      TagRest.space space (TagRest.attribute id_name refl Spaces.none Spaces.none quote (spells_plainly value plain (codes "/>")).0 TagRest.empty)

  single : Single (message_with value)
  single = Single.single (Element.empty_element (message_name (codes " id='" ++ (value ++ codes "'/>"))) tag)

  small : IsWithinLimits (single_parts single)
  unfolding single_parts most_in_element depth_of count_of single tag
  small =
      let most : (single_parts single).most_attributes ≡ 1 = refl in
      let none : (single_parts single).children ≡ [] = refl in
      let deep : (single_parts single).depth ≡ 1 = refl in
      record { attributes = omega (arith, most); children = omega (arith, ap (λ (c : _). length c) none); depth = omega (arith, deep) }

  message_text_is : IsText (message_with value)
  message_text_is = text_append (codes "<message id='") (value ++ codes "'/>") (texts_ascii (codes "<message id='") refl)
      (text_append value (codes "'/>") (plain_text value plain) (texts_ascii (codes "'/>") refl))

  stanza_with : length value ≤ 100 → IsStanza (message_with value)
  stanza_with short = (omega (arith, short, length-append value (codes "'/>")), single_parts single, (message_text_is, single, refl), small)

few_digits : (number : ℕ) → number < 2 ^ 64 → length (decimal number) ≤ 20
few_digits number word = length-decimal-le 20 number (omega arith) (omega (arith, word)) word

-- the messages of the client and of the server
pub client_stanza : (number : ℕ) → number < 2 ^ 64 → IsStanza (message_text 99 number)
client_stanza number word =
    stanza_with (99 ∷ decimal number) (plain-append (99 ∷ []) (decimal number) refl (decimal_plain number word)) (omega (arith, few_digits number word))

pub server_stanza : (number : ℕ) → number < 2 ^ 64 → IsStanza (message_text 115 number)
server_stanza number word =
    stanza_with (115 ∷ decimal number) (plain-append (115 ∷ []) (decimal number) refl (decimal_plain number word)) (omega (arith, few_digits number word))
