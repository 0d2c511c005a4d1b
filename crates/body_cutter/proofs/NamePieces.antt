-- The name of each attribute of a body is a name that stands in its text.
use Rattle.std.proofs.Common.{◌≡◌, ◌∙◌, ◌-◌, ℕ, Bool, List, [], ◌∷◌, ◌++◌, length, refl, sym, ap, subst, arith, append_assoc}
use Rattle.std.specs.Prelude.{slice_range}
use Rattle.std.specs.List.{All}
use Rattle.std.proofs.lemmas.List.Elements.{All-nil, All-cons}
use Rattle.body_cutter.specs.Grammar.{NameRest, Name, TagRest, BodyRest, SpacedBody, Document}
use Rattle.body_cutter.specs.Parts.{Parts, between, value_of, attributes_of, body_parts, spaced_parts, document_parts}
use Rattle.body_cutter.specs.BodyText.{HasBodyParts}
use Rattle.body_cutter.specs.Pieces.{IsNamed}
use Rattle.body_cutter.proofs.Fronts.{named_front, spaces_front}
use Rattle.body_cutter.proofs.Slices.{slice_here}
use Rattle.body_cutter.proofs.ChildPieces.{declaration_bytes}

-- a name's bytes are the name
rest_bytes : {name text rest : List ℕ} → NameRest name text rest → text ≡ name ++ rest
rest_bytes NameRest.none = refl
rest_bytes (NameRest.more {b = b} e n) = ap (λ (t : List ℕ). b ∷ t) (rest_bytes n)

name_bytes : {name text rest : List ℕ} → Name name text rest → text ≡ name ++ rest
name_bytes (Name.begins {b = b} e n) = ap (λ (t : List ℕ). b ∷ t) (rest_bytes n)

rest_alone : {name text rest : List ℕ} → NameRest name text rest → NameRest name name []
rest_alone NameRest.none = NameRest.none
rest_alone (NameRest.more e n) = NameRest.more e (rest_alone n)

name_alone : {name text rest : List ℕ} → Name name text rest → Name name name []
name_alone (Name.begins e n) = Name.begins e (rest_alone n)

name_piece : (whole front : List ℕ) {name text rest : List ℕ} (value : List ℕ) → Name name text rest → whole ≡ front ++ text → IsNamed whole (record { name = between (length whole) text rest; value = value })
name_piece whole front {name} {text} {rest} value n h =
    let here : slice_range whole (length whole - length text) (length whole - length rest) ≡ name =
    ap (λ (t : List ℕ). slice_range whole (length whole - length t) (length whole - length rest)) (name_bytes n)
    ∙ slice_here whole front name rest (h ∙ ap (λ (t : List ℕ). front ++ t) (name_bytes n)) in
    record { within = omega arith; is = subst (λ (t : List ℕ). Name t t []) (sym here) (name_alone n) }

names_of_tag : (whole front : List ℕ) {seen : List (List ℕ)} {spaced is_empty : Bool} {text rest : List ℕ} (t : TagRest seen spaced is_empty text rest) → whole ≡ front ++ text → All (IsNamed whole) (attributes_of (length whole) t)
unfolding attributes_of
names_of_tag whole front TagRest.empty h = All-nil (IsNamed whole)
names_of_tag whole front TagRest.opens h = All-nil (IsNamed whole)
names_of_tag whole front (TagRest.space {b = b} {text = text} e t) h = names_of_tag whole (front ++ b ∷ []) t (h ∙ sym (append_assoc front (b ∷ []) text))
names_of_tag whole front (TagRest.attribute {name = name} {text = text} {before_equals = after_name} {after = after} n fresh s u q v t) h =
    let k = named_front s u v in
    All-cons (IsNamed whole) _ (attributes_of (length whole) t) (name_piece whole front (value_of v) n h)
    (names_of_tag whole ((front ++ name) ++ k.bytes) t
    (h ∙ ap (λ (x : List ℕ). front ++ x) (name_bytes n)
    ∙ sym (append_assoc front name after_name)
    ∙ ap (λ (x : List ℕ). (front ++ name) ++ x) (k.here ∙ k.joined after)
    ∙ sym (append_assoc (front ++ name) k.bytes after)))

body_names : (whole front : List ℕ) {text rest : List ℕ} (b : BodyRest text rest) → whole ≡ front ++ text → All (IsNamed whole) ((body_parts (length whole) b).attributes)
unfolding body_parts
body_names whole front (BodyRest.empty t) h = names_of_tag whole front t h
body_names whole front (BodyRest.full t c e) h = names_of_tag whole front t h

spaced_names : (whole front : List ℕ) {text : List ℕ} (b : SpacedBody text) → whole ≡ front ++ text → All (IsNamed whole) ((spaced_parts (length whole) b).attributes)
unfolding spaced_parts
spaced_names whole front (SpacedBody.spaced {inner = inner} s b e) h =
    let k = spaces_front s in
    body_names whole ((front ++ k.bytes) ++ 60 ∷ 98 ∷ 111 ∷ 100 ∷ 121 ∷ []) b
    (h ∙ ap (λ (n : List ℕ). front ++ n) (k.here ∙ k.joined (60 ∷ 98 ∷ 111 ∷ 100 ∷ 121 ∷ inner))
    ∙ sym (append_assoc front k.bytes (60 ∷ 98 ∷ 111 ∷ 100 ∷ 121 ∷ inner))
    ∙ sym (append_assoc (front ++ k.bytes) (60 ∷ 98 ∷ 111 ∷ 100 ∷ 121 ∷ []) inner))

document_names : (whole : List ℕ) (d : Document whole) → All (IsNamed whole) ((document_parts (length whole) d).attributes)
unfolding document_parts
document_names whole (Document.plain b) = spaced_names whole [] b refl
document_names whole (Document.declared {b = b} e d body) =
    let k = declaration_bytes d in spaced_names whole (60 ∷ 63 ∷ 120 ∷ 109 ∷ 108 ∷ b ∷ k.0) body (ap (λ (n : List ℕ). 60 ∷ 63 ∷ 120 ∷ 109 ∷ 108 ∷ b ∷ n) k.1)

-- the name of each attribute is a name
pub attributes_are_named : (text : List ℕ) (parts : Parts) → HasBodyParts text parts → All (IsNamed text) parts.attributes
attributes_are_named text parts h = subst (λ (p : Parts). All (IsNamed text) p.attributes) h.2 (document_names text h.1)
