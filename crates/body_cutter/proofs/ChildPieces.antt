-- The bytes of each child of a body are an element by itself.
use Rattle.std.proofs.Common.{◌≡◌, ◌∙◌, ◌-◌, ◌<◌, ◌≤◌, ℕ, true, List, [], ◌∷◌, ◌++◌, length, refl, sym, ap, subst, arith, append_assoc, append-nil}
use Rattle.std.specs.Prelude.{max, slice_range}
use Rattle.std.specs.List.{All}
use Rattle.std.proofs.lemmas.List.Elements.{All-nil, All-cons}
use Rattle.std.proofs.lemmas.Bool.Decides.{nat_tests}
use Rattle.body_cutter.specs.Chars.{is_space}
use Rattle.body_cutter.specs.Grammar.{Element, Children, BodyRest, DeclarationRest, SpacedBody, Document, Single}
use Rattle.body_cutter.specs.Parts.{Parts, between, count_of, most_in_element, depth_of, children_of, most_in_children, depth_of_children, body_parts, spaced_parts, document_parts, single_parts}
use Rattle.body_cutter.specs.BodyText.{IsText, HasElementParts, HasBodyParts}
use Rattle.body_cutter.specs.Pieces.{IsPiece}
use Rattle.body_cutter.proofs.Fronts.{spaces_front, tag_front}
use Rattle.body_cutter.proofs.ElementFronts.{ElementOf, element_front}
use Rattle.body_cutter.proofs.Slices.{slice_here, text_piece}

-- white space is ASCII
space_below : (b : ℕ) → is_space b ≡ true → b < 128
unfolding is_space
space_below b h = grind (arith, nat_tests, h)

-- where children begin or end an ASCII byte stands
record Begins (text : List ℕ) : Type 0 where
  byte : ℕ
  rest : List ℕ
  below : byte < 128
  is : text ≡ byte ∷ rest

begins : {text rest close : List ℕ} → Children text rest → rest ≡ 60 ∷ 47 ∷ close → Begins text
begins {close = close} Children.none e = record { byte = 60; rest = 47 ∷ close; below = omega arith; is = e }
begins (Children.space {b = b} {text = text} h c) e = record { byte = b; rest = text; below = space_below b h; is = refl }
begins (Children.child {text = text} x c) e = record { byte = 60; rest = text; below = omega arith; is = refl }

-- an element that stands in a text
module _ (whole : List ℕ) (text : IsText whole) (parts : Parts) where
  -- the bytes of an element
  bytes_before : {t after : List ℕ} (x : Element t after) → t ≡ (element_front x).bytes ++ after
  bytes_before {after = after} x = let k = element_front x in k.here ∙ k.joined after

  alone : {t after : List ℕ} (x : Element t after) → ElementOf (most_in_element x) (depth_of x) (element_front x).bytes []
  alone x = let k = element_front x in subst (λ (t : List ℕ). ElementOf (most_in_element x) (depth_of x) t []) (k.joined [] ∙ append-nil k.bytes) (k.stays [])

  element_text : {t : List ℕ} (front after bytes : List ℕ) → Begins after → t ≡ bytes ++ after → whole ≡ front ++ 60 ∷ t → IsText (60 ∷ bytes)
  element_text front after bytes b e h =
      text_piece whole front bytes b.rest 60 b.byte (omega arith) b.below text
      (h ∙ ap (λ (t : List ℕ). front ++ 60 ∷ t) (e ∙ ap (λ (t : List ℕ). bytes ++ t) b.is))

  piece_of : {t after : List ℕ} (front : List ℕ) (x : Element t after) → Begins after → whole ≡ front ++ 60 ∷ t → most_in_element x ≤ parts.most_attributes → depth_of x ≤ parts.depth → IsPiece whole parts (between (length whole) (60 ∷ t) after)
  unfolding single_parts
  piece_of {t} {after} front x b h most depth =
      let bytes = (element_front x).bytes in
      let e = bytes_before x in
      let own = alone x in
      let own_parts : Parts = record { attributes = []; children = []; most_attributes = most_in_element own.element; depth = depth_of own.element } in
      let here : slice_range whole (length whole - length (60 ∷ t)) (length whole - length after) ≡ 60 ∷ bytes =
      ap (λ (n : List ℕ). slice_range whole (length whole - length (60 ∷ n)) (length whole - length after)) e
      ∙ slice_here whole front (60 ∷ bytes) after (h ∙ ap (λ (n : List ℕ). front ++ 60 ∷ n) e) in
      let has : HasElementParts (60 ∷ bytes) own_parts = (element_text front after bytes b e h, Single.single own.element, refl) in
      record {
        within = omega arith;
        own = own_parts;
        is = subst (λ (n : List ℕ). HasElementParts n own_parts) (sym here) has;
        most_attributes = subst (λ (n : ℕ). n ≤ parts.most_attributes) (sym own.most_is) most;
        depth = subst (λ (n : ℕ). n ≤ parts.depth) (sym own.depth_is) depth;
      }

  pieces : {t rest close : List ℕ} (front : List ℕ) (c : Children t rest) → rest ≡ 60 ∷ 47 ∷ close → whole ≡ front ++ t → most_in_children c ≤ parts.most_attributes → depth_of_children c ≤ parts.depth → All (IsPiece whole parts) (children_of (length whole) c)
  unfolding children_of most_in_children depth_of_children
  pieces front Children.none e h most depth = All-nil (IsPiece whole parts)
  pieces front (Children.space {b = b} {text = t} s c) e h most depth = pieces (front ++ b ∷ []) c e (h ∙ sym (append_assoc front (b ∷ []) t)) most depth
  pieces front (Children.child {text = t} {after = after} x c) e h most depth =
      All-cons (IsPiece whole parts) (between (length whole) (60 ∷ t) after) (children_of (length whole) c)
      (piece_of front x (begins c e) h (first _ _ _ most) (first _ _ _ depth))
      (pieces (front ++ 60 ∷ (element_front x).bytes) c e
      (h ∙ ap (λ (n : List ℕ). front ++ 60 ∷ n) (bytes_before x) ∙ sym (append_assoc front (60 ∷ (element_front x).bytes) after))
      (second _ _ _ most) (second _ _ _ depth))
    where
      first : (a b n : ℕ) → max a b ≤ n → a ≤ n
      first a b n l = grind (arith, nat_tests, l)

      second : (a b n : ℕ) → max a b ≤ n → b ≤ n
      second a b n l = grind (arith, nat_tests, l)

-- the pieces of the body after its name
body_pieces : (whole front : List ℕ) {t rest : List ℕ} → IsText whole → (b : BodyRest t rest) → whole ≡ front ++ t → All (IsPiece whole (body_parts (length whole) b)) ((body_parts (length whole) b).children)
unfolding body_parts
body_pieces whole front text (BodyRest.empty t) h = All-nil _
body_pieces whole front text (BodyRest.full {inner = inner} t c e) h =
    let k = tag_front t in
    pieces whole text (body_parts (length whole) (BodyRest.full t c e)) (front ++ k.bytes) c refl
    (h ∙ ap (λ (n : List ℕ). front ++ n) (k.here ∙ k.joined inner) ∙ sym (append_assoc front k.bytes inner)) (later (count_of t) (most_in_children c)) (omega arith)
  where
    later : (a b : ℕ) → b ≤ max a b
    later a b = grind (arith, nat_tests)

spaced_pieces : (whole front : List ℕ) {t : List ℕ} → IsText whole → (b : SpacedBody t) → whole ≡ front ++ t → All (IsPiece whole (spaced_parts (length whole) b)) ((spaced_parts (length whole) b).children)
unfolding spaced_parts
spaced_pieces whole front text (SpacedBody.spaced {inner = inner} s b e) h =
    let k = spaces_front s in
    body_pieces whole ((front ++ k.bytes) ++ 60 ∷ 98 ∷ 111 ∷ 100 ∷ 121 ∷ []) text b
    (h ∙ ap (λ (n : List ℕ). front ++ n) (k.here ∙ k.joined (60 ∷ 98 ∷ 111 ∷ 100 ∷ 121 ∷ inner))
    ∙ sym (append_assoc front k.bytes (60 ∷ 98 ∷ 111 ∷ 100 ∷ 121 ∷ inner))
    ∙ sym (append_assoc (front ++ k.bytes) (60 ∷ 98 ∷ 111 ∷ 100 ∷ 121 ∷ []) inner))

-- the bytes of a declaration
pub declaration_bytes : {t after : List ℕ} → DeclarationRest t after → (bytes : List ℕ) × (t ≡ bytes ++ after)
declaration_bytes DeclarationRest.ends = (63 ∷ 62 ∷ [], refl)
declaration_bytes (DeclarationRest.char {b = b} c e d) = let k = declaration_bytes d in (b ∷ k.0, ap (λ (n : List ℕ). b ∷ n) k.1)

document_pieces : (whole : List ℕ) → IsText whole → (d : Document whole) → All (IsPiece whole (document_parts (length whole) d)) ((document_parts (length whole) d).children)
unfolding document_parts
document_pieces whole text (Document.plain b) = spaced_pieces whole [] text b refl
document_pieces whole text (Document.declared {b = b} e d body) =
    let k = declaration_bytes d in spaced_pieces whole (60 ∷ 63 ∷ 120 ∷ 109 ∷ 108 ∷ b ∷ k.0) text body (ap (λ (n : List ℕ). 60 ∷ 63 ∷ 120 ∷ 109 ∷ 108 ∷ b ∷ n) k.1)

-- the bytes of each child are an element by itself
pub children_are_pieces : (text : List ℕ) (parts : Parts) → HasBodyParts text parts → All (IsPiece text parts) parts.children
children_are_pieces text parts h = subst (λ (p : Parts). All (IsPiece text p) p.children) h.2 (document_pieces text h.0 h.1)
