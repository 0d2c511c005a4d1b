-- A body that is built of attributes and elements reads back as these.
use Rattle.std.proofs.Common.{◌≡◌, ◌∙◌, ◌+◌, ◌-◌, ◌≤◌, ℕ, Bool, true, false, List, [], ◌∷◌, ◌++◌, length, refl, sym, ap, subst, arith, append_assoc}
use Rattle.std.specs.Prelude.{map, max, slice_range}
use Rattle.std.specs.List.{All}
use Rattle.std.proofs.lemmas.List.Elements.{All-head, All-tail}
use Rattle.std.proofs.lemmas.Bool.Decides.{nat_tests}
use Rattle.body_cutter.specs.declared.parts.Attr.{Attr}
use Rattle.body_cutter.specs.Chars.{is_space}
use Rattle.body_cutter.specs.Names.{with_name}
use Rattle.body_cutter.specs.Grammar.{Spaces, NameRest, Name, TagRest, Exactly, EndTag, BodyRest, SpacedBody, Document}
use Rattle.body_cutter.specs.Parts.{attributes_of, count_of, body_parts, spaced_parts, document_parts}
use Rattle.body_cutter.specs.BodyText.{IsText}
use Rattle.body_cutter.specs.Pieces.{bytes_at}
use Rattle.body_cutter.specs.Built.{Written, IsWritten, AreFresh, attributes_text, elements_text, built_text, IsElementWithin, ReadsBack}
use Rattle.body_cutter.proofs.Slices.{slice_here}
use Rattle.body_cutter.proofs.BuiltChildren.{list}

-- a name before other bytes
rest_onto : {name text rest : List ℕ} → NameRest name text rest → (other : List ℕ) → NameRest name (name ++ other) other
rest_onto NameRest.none other = NameRest.none
rest_onto (NameRest.more e n) other = NameRest.more e (rest_onto n other)

name_onto : {name text rest : List ℕ} → Name name text rest → (other : List ℕ) → Name name (name ++ other) other
name_onto (Name.begins e n) other = Name.begins e (rest_onto n other)

-- the end of a tag
abbrev tag_end : Bool → List ℕ → List ℕ
tag_end true after = 47 ∷ 62 ∷ after
tag_end false after = 62 ∷ after

-- one written attribute
abbrev one_text : Written → List ℕ
one_text a = 32 ∷ (a.name ++ (61 ∷ 39 ∷ (a.spelling ++ 39 ∷ [])))

grouped : (a : Written) (more : List ℕ) → 32 ∷ (a.name ++ (61 ∷ 39 ∷ (a.spelling ++ (39 ∷ more)))) ≡ one_text a ++ more
grouped a more =
    ap (λ (t : List ℕ). 32 ∷ (a.name ++ (61 ∷ 39 ∷ t))) (sym (append_assoc a.spelling (39 ∷ []) more))
    ∙ ap (λ (t : List ℕ). 32 ∷ t) (sym (append_assoc a.name (61 ∷ 39 ∷ (a.spelling ++ 39 ∷ [])) more))

module _ (whole : List ℕ) where
  abbrev names_in : List Attr → List (List ℕ)
  names_in attrs = map (λ attr. bytes_at whole attr.name) attrs

  -- a tag of these attributes
  record WrittenTag (attributes : List Written) (seen : List (List ℕ)) (spaced is_empty : Bool) (text after : List ℕ) : Type 0 where
    tag : TagRest seen spaced is_empty text after
    names : names_in (attributes_of (length whole) tag) ≡ map (λ attribute. attribute.name) attributes
    values : map (λ attr. attr.value) (attributes_of (length whole) tag) ≡ map (λ attribute. attribute.value) attributes
    counts : count_of tag ≡ length attributes

  tag_ends : (is_empty : Bool) (after : List ℕ) (seen : List (List ℕ)) (spaced : Bool) → WrittenTag [] seen spaced is_empty (tag_end is_empty after) after
  unfolding attributes_of count_of
  tag_ends true after seen spaced = record { tag = TagRest.empty; names = refl; values = refl; counts = refl }
  tag_ends false after seen spaced = record { tag = TagRest.opens; names = refl; values = refl; counts = refl }

  written_tag : (is_empty : Bool) (after front : List ℕ) (attributes : List Written) (seen : List (List ℕ)) (spaced : Bool) → whole ≡ front ++ attributes_text attributes (tag_end is_empty after) → All IsWritten attributes → AreFresh seen attributes →
      WrittenTag attributes seen spaced is_empty (attributes_text attributes (tag_end is_empty after)) after
  unfolding attributes_of count_of is_space
  written_tag is_empty after front [] seen spaced h are fresh = tag_ends is_empty after seen spaced
  written_tag is_empty after front (a ∷ attributes) seen spaced h are fresh =
      let one = All-head IsWritten a attributes are in
      let more = attributes_text attributes (tag_end is_empty after) in
      let after_name = 61 ∷ 39 ∷ (a.spelling ++ (39 ∷ more)) in
      let k = written_tag is_empty after (front ++ one_text a) attributes (with_name seen a.name) false
      (h ∙ ap (λ (t : List ℕ). front ++ t) (grouped a more) ∙ sym (append_assoc front (one_text a) more)) (All-tail IsWritten a attributes are) fresh.1 in
      let value = one.value more in
      let here : slice_range whole (length whole - length (a.name ++ after_name)) (length whole - length after_name) ≡ a.name =
      slice_here whole (front ++ 32 ∷ []) a.name after_name (h ∙ sym (append_assoc front (32 ∷ []) (a.name ++ after_name))) in
      record {
        tag = TagRest.space refl (TagRest.attribute {quote = 39} (name_onto one.name after_name) fresh.0 Spaces.none Spaces.none refl value.0 k.tag);
        names = ap (λ (x : List ℕ). x ∷ names_in (attributes_of (length whole) k.tag)) here ∙ ap (λ (xs : List (List ℕ)). a.name ∷ xs) k.names;
        values = ap (λ (x : List ℕ). x ∷ map (λ attr. attr.value) (attributes_of (length whole) k.tag)) value.1 ∙ ap (λ (xs : List (List ℕ)). a.value ∷ xs) k.values;
        counts = ap (λ (n : ℕ). n + 1) k.counts ∙ omega arith;
      }

abbrev head : List ℕ
head = 60 ∷ 98 ∷ 111 ∷ 100 ∷ 121 ∷ []

body_end : EndTag (98 ∷ 111 ∷ 100 ∷ 121 ∷ []) (98 ∷ 111 ∷ 100 ∷ 121 ∷ 62 ∷ []) []
body_end = EndTag.ends (Exactly.more (Exactly.more (Exactly.more (Exactly.more Exactly.none)))) Spaces.none

least : (a b n : ℕ) → a ≤ n → b ≤ n → max a b ≤ n
least a b n h l = grind (arith, nat_tests, h, l)

-- a body of these attributes and elements
pub reads_back : (most depth : ℕ) (attributes : List Written) (elements : List (List ℕ)) → IsText (built_text attributes elements) → All IsWritten attributes → AreFresh [] attributes → length attributes ≤ most → All (IsElementWithin most depth) elements →
    ReadsBack (built_text attributes elements) attributes elements most depth
unfolding document_parts spaced_parts body_parts
reads_back most depth attributes [] text are fresh count within =
    let whole = built_text attributes [] in
    let t = written_tag whole true [] head attributes [] false refl are fresh in
    let d : Document whole = Document.plain (SpacedBody.spaced Spaces.none (BodyRest.empty t.tag) Spaces.none) in
    record {
      parts = document_parts (length whole) d;
      is = (text, d, refl);
      names = t.names;
      values = t.values;
      children = refl;
      most_attributes = subst (λ (n : ℕ). n ≤ most) (sym t.counts) count;
      depth_within = omega arith;
    }
reads_back most depth attributes (element ∷ elements) text are fresh count within =
    let whole = built_text attributes (element ∷ elements) in
    let end : List ℕ = 60 ∷ 47 ∷ 98 ∷ 111 ∷ 100 ∷ 121 ∷ 62 ∷ [] in
    let inner = elements_text (element ∷ elements) end in
    let t = written_tag whole false inner head attributes [] false refl are fresh in
    let front = (head ++ attributes_text attributes (62 ∷ [])) in
    let c = list most depth whole end front (element ∷ elements) (ap (λ (x : List ℕ). head ++ x) (split attributes inner)) within in
    let d : Document whole = Document.plain (SpacedBody.spaced Spaces.none (BodyRest.full t.tag c.children body_end) Spaces.none) in
    record {
      parts = document_parts (length whole) d;
      is = (text, d, refl);
      names = t.names;
      values = t.values;
      children = c.bytes;
      most_attributes = least (count_of t.tag) _ most (subst (λ (n : ℕ). n ≤ most) (sym t.counts) count) c.most_attributes;
      depth_within = c.depth_within;
    }
  where
    split : (attributes : List Written) (after : List ℕ) → attributes_text attributes (62 ∷ after) ≡ attributes_text attributes (62 ∷ []) ++ after
    split [] after = refl
    split (a ∷ attributes) after =
        ap (λ (x : List ℕ). 32 ∷ (a.name ++ (61 ∷ 39 ∷ (a.spelling ++ (39 ∷ x))))) (split attributes after)
        ∙ ap (λ (x : List ℕ). 32 ∷ (a.name ++ (61 ∷ 39 ∷ x))) (sym (append_assoc a.spelling (39 ∷ attributes_text attributes (62 ∷ [])) after))
        ∙ ap (λ (x : List ℕ). 32 ∷ x) (sym (append_assoc a.name (61 ∷ 39 ∷ (a.spelling ++ (39 ∷ attributes_text attributes (62 ∷ [])))) after))
