-- What the reader keeps of a text is what the grammar says of it.
use Rattle.std.proofs.Common.{◌≡◌, ◌∙◌, ◌+◌, ◌-◌, ℕ, Bool, true, false, ◌||◌, List, [], ◌∷◌, ◌++◌, length, refl, sym, ap, append_assoc, append-nil, arith}
use Rattle.std.specs.Prelude.{nat_lt, max}
use Rattle.std.proofs.lemmas.Bool.Decides.{nat_tests}
use Rattle.body_cutter.specs.declared.parts.Span.{Span}
use Rattle.body_cutter.specs.declared.place.Kind.{Kind}
use Rattle.body_cutter.specs.declared.place.Kind.TheVariants as kinds
use Rattle.body_cutter.specs.Reader.{deepest}
use Rattle.body_cutter.specs.Grammar.{TagRest, Element, Content, Children, BodyRest, SpacedBody, Document, Single}
use Rattle.body_cutter.specs.Parts.{Parts, between, attributes_of, count_of, most_in_element, most_in_content, depth_of, depth_of_content, children_of, most_in_children, depth_of_children, body_parts, spaced_parts, document_parts, single_parts}
use Rattle.body_cutter.proofs.Flow.{Kept}
use Rattle.body_cutter.proofs.Folds.{closed, deepened, marked, tag_kept, element_kept, content_kept, children_kept}
use Rattle.body_cutter.proofs.Limits.{or_later, or_max, or_max_past, or_false, or_known, or_true, exceeded_is}
use Rattle.body_cutter.proofs.ValuesKept.{with_attrs, tag_passed, tag_is}
use Rattle.body_cutter.proofs.TakenDocument.{body, nothing, body_kept, document_kept, single_kept}

-- with what the limits say
abbrev pub limited : Kept → Bool → Bool → Kept
limited k many deep = record k { too_many_attributes = many; too_deep = deep }

abbrev within_limits : Kept → ℕ → ℕ → ℕ → ℕ → Kept
within_limits k limit around most depth = limited k (k.too_many_attributes || nat_lt 32 most) (k.too_deep || nat_lt limit (around + depth))

-- no attributes, and no elements
nothing_more : (k : Kept) (limit around : ℕ) → (nat_lt limit around ≡ true → k.too_deep ≡ true) → k ≡ within_limits k limit around 0 0
nothing_more k limit around h =
    ap (λ (x : Bool). limited k x k.too_deep) (sym (or_false k.too_many_attributes))
    ∙ ap (λ (x : Bool). limited k (k.too_many_attributes || false) x) (sym (or_known k.too_deep (nat_lt limit (around + 0)) (λ e. h (ap (λ (n : ℕ). nat_lt limit n) (omega arith) ∙ e))))

-- one element, and the others
one_and_others : (k : Kept) (limit around most_one most depth_one depth : ℕ) → within_limits (within_limits k limit around most_one depth_one) limit around most depth ≡ within_limits k limit around (max most_one most) (max depth_one depth)
one_and_others k limit around most_one most depth_one depth =
    ap (λ (x : Bool). limited k x ((k.too_deep || nat_lt limit (around + depth_one)) || nat_lt limit (around + depth))) (or_max k.too_many_attributes 32 most_one most)
    ∙ ap (λ (x : Bool). limited k (k.too_many_attributes || nat_lt 32 (max most_one most)) x) (or_max_past k.too_deep limit around depth_one depth)

-- a tag, and what is in it
tag_and_inner : (k : Kept) (limit around next count most depth : ℕ) → next ≡ around + 1 →
    limited k ((k.too_many_attributes || nat_lt 32 count) || nat_lt 32 most) ((k.too_deep || nat_lt limit next) || nat_lt limit (next + depth)) ≡ within_limits k limit around (max count most) (depth + 1)
tag_and_inner k limit around next count most depth e =
    ap (λ (x : Bool). limited k x ((k.too_deep || nat_lt limit next) || nat_lt limit (next + depth))) (or_max k.too_many_attributes 32 count most)
    ∙ ap (λ (x : Bool). limited k (k.too_many_attributes || nat_lt 32 (max count most)) x) (or_later k.too_deep limit next (next + depth) (omega arith) ∙ ap (λ (n : ℕ). k.too_deep || nat_lt limit n) (omega (arith, e)))

-- a tag alone
tag_alone : (k : Kept) (limit around next count : ℕ) → next ≡ around + 1 → limited k (k.too_many_attributes || nat_lt 32 count) (k.too_deep || nat_lt limit next) ≡ within_limits k limit around count 1
tag_alone k limit around next count e = ap (λ (n : ℕ). limited k (k.too_many_attributes || nat_lt 32 count) (k.too_deep || nat_lt limit n)) e

-- the tag of an element
tag_limits : (len : ℕ) (kind : Kind) (elements : List (List ℕ)) {is_empty : Bool} {text rest : List ℕ} (t : TagRest [] false is_empty text rest) (k : Kept) →
    tag_kept false len t (deepened kind elements k) ≡ limited k (k.too_many_attributes || nat_lt 32 (count_of t)) (k.too_deep || nat_lt (deepest kind) (length elements))
tag_limits len kind elements t k =
    tag_passed len t (deepened kind elements k)
    ∙ ap (λ (x : Bool). limited k x (k.too_deep || nat_lt (deepest kind) (length elements)))
    (exceeded_is t k.too_many_attributes (λ e. never e) ∙ ap (λ (n : ℕ). k.too_many_attributes || nat_lt 32 n) (omega arith))
  where
    never : {P : Type 0} → nat_lt 32 0 ≡ true → P
    never e = absurd (cc)

mutual
  unfolding element_kept content_kept most_in_element most_in_content depth_of depth_of_content

  pub element_limits : {text rest : List ℕ} (x : Element text rest) (kind : Kind) (len : ℕ) (outer : List (List ℕ)) (k : Kept) → element_kept x kind len outer k ≡ within_limits k (deepest kind) (length outer) (most_in_element x) (depth_of x)
  element_limits (Element.empty_element {name = name} n t) kind len outer k = tag_limits len kind (name ∷ outer) t k ∙ tag_alone k (deepest kind) (length outer) (length (name ∷ outer)) (count_of t) (omega arith)
  element_limits (Element.full_element {name = name} n t c e) kind len outer k =
      ap (content_kept c kind len (name ∷ outer)) (tag_limits len kind (name ∷ outer) t k)
      ∙ content_limits c kind len (name ∷ outer) _ (λ h. or_true k.too_deep _ h)
      ∙ tag_and_inner k (deepest kind) (length outer) (length (name ∷ outer)) (count_of t) (most_in_content c) (depth_of_content c) (omega arith)

  content_limits : {text rest : List ℕ} (c : Content text rest) (kind : Kind) (len : ℕ) (elements : List (List ℕ)) (k : Kept) → (nat_lt (deepest kind) (length elements) ≡ true → k.too_deep ≡ true) →
      content_kept c kind len elements k ≡ within_limits k (deepest kind) (length elements) (most_in_content c) (depth_of_content c)
  content_limits Content.no_content kind len elements k h = nothing_more k (deepest kind) (length elements) h
  content_limits (Content.child_element x c) kind len elements k h =
      ap (content_kept c kind len elements) (element_limits x kind len elements k)
      ∙ content_limits c kind len elements _ (λ e. kept_on k.too_deep _ (h e))
      ∙ one_and_others k (deepest kind) (length elements) (most_in_element x) (most_in_content c) (depth_of x) (depth_of_content c)
    where
      kept_on : (a b : Bool) → a ≡ true → (a || b) ≡ true
      kept_on true b e = refl
      kept_on false b e = absurd (cc)
  content_limits (Content.reference r c) kind len elements k h = content_limits c kind len elements k h
  content_limits (Content.char d e c) kind len elements k h = content_limits c kind len elements k h
  content_limits (Content.section s c) kind len elements k h = content_limits c kind len elements k h

-- where the last child starts
unfoldable last_start : ℕ → {text rest : List ℕ} → Children text rest → ℕ → ℕ
last_start len Children.none start = start
last_start len (Children.space e c) start = last_start len c start
last_start len (Children.child {text = text} x c) start = last_start len c (len - length (60 ∷ text))

abbrev listed : Kept → ℕ → List Span → Kept
listed k start children = record k { child_start = start; children = children }

children_is : (len : ℕ) (elements : List (List ℕ)) {text rest : List ℕ} (c : Children text rest) (k : Kept) → (nat_lt 65 (length elements) ≡ true → k.too_deep ≡ true) →
    children_kept kinds.Body len elements c k ≡ within_limits (listed k (last_start len c k.child_start) (k.children ++ children_of len c)) 65 (length elements) (most_in_children c) (depth_of_children c)
unfolding children_kept last_start children_of most_in_children depth_of_children
children_is len elements Children.none k h =
    nothing_more k 65 (length elements) h
    ∙ ap (λ (x : List Span). within_limits (listed k k.child_start x) 65 (length elements) 0 0) (sym (append-nil k.children))
children_is len elements (Children.space e c) k h = children_is len elements c k h
children_is len elements (Children.child {text = text} {after = after} x c) k h =
    ap (λ (y : Kept). children_kept kinds.Body len elements c (closed true (len - length after) y)) (element_limits x kinds.Body len elements (marked (len - length (60 ∷ text)) k))
    ∙ children_is len elements c (next k) (λ e. kept_on k.too_deep _ (h e))
    ∙ ap (λ (y : List Span). within_limits (listed (next k) (last_start len c (len - length (60 ∷ text))) y) 65 (length elements) (most_in_children c) (depth_of_children c)) (append_assoc k.children _ (children_of len c))
    ∙ one_and_others (listed k (last_start len c (len - length (60 ∷ text))) (k.children ++ (between len (60 ∷ text) after ∷ children_of len c))) 65 (length elements) (most_in_element x) (most_in_children c) (depth_of x) (depth_of_children c)
  where
    kept_on : (a b : Bool) → a ≡ true → (a || b) ≡ true
    kept_on true b e = refl
    kept_on false b e = absurd (cc)

    next : Kept → Kept
    next k = within_limits (listed k (len - length (60 ∷ text)) (k.children ++ between len (60 ∷ text) after ∷ [])) 65 (length elements) (most_in_element x) (depth_of x)

-- what is kept is what these parts say
pub record IsKept (k : Kept) (p : Parts) : Type 0 where
  pub attrs : k.attrs ≡ p.attributes
  pub children : k.children ≡ p.children
  pub too_many_attributes : k.too_many_attributes ≡ nat_lt 32 p.most_attributes
  pub too_deep : k.too_deep ≡ nat_lt 64 p.depth

-- the tag of the body
body_tag : (len : ℕ) {is_empty : Bool} {text rest : List ℕ} (t : TagRest [] false is_empty text rest) → tag_kept true len t (deepened kinds.Body (body ∷ []) nothing) ≡ with_attrs nothing (attributes_of len t) (nat_lt 32 (count_of t))
body_tag len t =
    tag_is len nothing t [] false
    ∙ ap (λ (x : Bool). with_attrs nothing (attributes_of len t) x) (exceeded_is t false (λ e. never e) ∙ ap (λ (n : ℕ). nat_lt 32 n) (omega arith))
  where
    never : {P : Type 0} → nat_lt 32 0 ≡ true → P
    never e = absurd (cc)

-- the body lies around the elements
one_deeper : (d : ℕ) → nat_lt 65 (1 + d) ≡ nat_lt 64 d
one_deeper d = grind (arith, nat_tests)

body_is : (len : ℕ) {text rest : List ℕ} (b : BodyRest text rest) → IsKept (body_kept len b nothing) (body_parts len b)
unfolding body_kept body_parts
body_is len (BodyRest.empty t) = record {
  attrs = ap (λ (k : Kept). k.attrs) (body_tag len t);
  children = ap (λ (k : Kept). k.children) (body_tag len t);
  too_many_attributes = ap (λ (k : Kept). k.too_many_attributes) (body_tag len t);
  too_deep = ap (λ (k : Kept). k.too_deep) (body_tag len t);
}
body_is len (BodyRest.full {close = close} t c e) =
    let whole = ap (λ (k : Kept). marked (len - length (60 ∷ 47 ∷ close)) (children_kept kinds.Body len (body ∷ []) c k)) (body_tag len t) ∙ ap (marked (len - length (60 ∷ 47 ∷ close))) (children_is len (body ∷ []) c (with_attrs nothing (attributes_of len t) (nat_lt 32 (count_of t))) (λ e. never e)) in
    record {
      attrs = ap (λ (k : Kept). k.attrs) whole;
      children = ap (λ (k : Kept). k.children) whole;
      too_many_attributes = ap (λ (k : Kept). k.too_many_attributes) whole ∙ or_max false 32 (count_of t) (most_in_children c);
      too_deep = ap (λ (k : Kept). k.too_deep) whole ∙ one_deeper (depth_of_children c);
    }
  where
    never : {P : Type 0} → nat_lt 65 1 ≡ true → P
    never e = absurd (cc)

pub document_is : (len : ℕ) {text : List ℕ} (d : Document text) → IsKept (document_kept len d) (document_parts len d)
unfolding document_kept document_parts spaced_parts
document_is len (Document.plain (SpacedBody.spaced s b e)) = body_is len b
document_is len (Document.declared f d (SpacedBody.spaced s b e)) = body_is len b

pub single_is : (len : ℕ) {text : List ℕ} (x : Single text) → IsKept (single_kept len x) (single_parts x)
unfolding single_kept single_parts
single_is len (Single.single x) =
    let e = element_limits x kinds.Stanza len [] nothing in
    record {
      attrs = ap (λ (k : Kept). k.attrs) e;
      children = ap (λ (k : Kept). k.children) e;
      too_many_attributes = ap (λ (k : Kept). k.too_many_attributes) e;
      too_deep = ap (λ (k : Kept). k.too_deep) e ∙ ap (λ (n : ℕ). nat_lt 64 n) (omega arith);
    }
