-- The values and attributes that the reader keeps are those of the grammar.
use Rattle.std.proofs.Common.{◌≡◌, ◌∙◌, ℕ, Bool, true, false, ◌&&◌, ◌||◌, List, [], ◌∷◌, ◌++◌, length, refl, sym, ap, append_assoc, append-nil, inl, inr}
use Rattle.std.specs.Prelude.{◌⊎◌, ◌==◌, nat_lt, encode_utf8, if◌then◌else◌}
use Rattle.std.proofs.lemmas.Bool.{eqb-true}
use Rattle.body_cutter.specs.declared.parts.Attr.{Attr}
use Rattle.body_cutter.specs.Chars.{is_space}
use Rattle.body_cutter.specs.Names.{with_name}
use Rattle.body_cutter.specs.Grammar.{Value, TagRest}
use Rattle.body_cutter.specs.Parts.{between, character_of, normalised, value_of, attributes_of}
use Rattle.body_cutter.proofs.Leads.{both}
use Rattle.body_cutter.proofs.Flow.{Kept}
use Rattle.body_cutter.proofs.Folds.{grown, attributed, counted, by_way, value_kept, tag_kept}
use Rattle.body_cutter.proofs.Limits.{exceeded}

abbrev pub valued : Kept → List ℕ → Kept
valued k value = record k { value = value }

abbrev space_if : Bool → List ℕ
space_if true = 32 ∷ []
space_if false = []

-- a space that a CR gave before the LF at the front of this text came
abbrev early : Bool → List ℕ → List ℕ
early false text = []
early true [] = []
early true (b ∷ text) = space_if (b == 10)

at_lf : (x : Bool) → space_if x ≡ space_if (x && true)
at_lf true = refl
at_lf false = refl

no_cr : (x : Bool) → [] ≡ space_if (x && false)
no_cr true = refl
no_cr false = refl

early_is : (after_cr : Bool) (b : ℕ) (text : List ℕ) → early after_cr (b ∷ text) ≡ space_if (b == 10 && after_cr)
early_is true b text = at_lf (b == 10)
early_is false b text = no_cr (b == 10)

-- what a CR gives, before a LF and elsewhere
abbrev AtCr : List ℕ → List ℕ → Type 0
AtCr text value = ((early true text ≡ 32 ∷ []) × (value ≡ [])) ⊎ ((early true text ≡ []) × (value ≡ 32 ∷ []))

module _ (k : Kept) (V next : List ℕ) (F : Bool → Kept → Kept) (known : (after_cr : Bool) (acc : List ℕ) → F after_cr (valued k (acc ++ (if after_cr then next else []))) ≡ valued k (acc ++ V)) where
  plain : (acc : List ℕ) → F false (valued k acc) ≡ valued k (acc ++ V)
  plain acc = ap (λ (x : List ℕ). F false (valued k x)) (sym (append-nil acc)) ∙ known false acc

  grouped : (acc one value : List ℕ) → value ≡ one → valued k ((acc ++ one) ++ V) ≡ valued k (acc ++ (value ++ V))
  grouped acc one value e = ap (λ (x : List ℕ). valued k x) (append_assoc acc one V ∙ ap (λ (x : List ℕ). acc ++ (x ++ V)) (sym e))

  after : (a : Bool) (acc one value : List ℕ) → value ≡ one → F a (valued k (acc ++ one)) ≡ valued k ((acc ++ one) ++ V) → F a (valued k ((acc ++ []) ++ one)) ≡ valued k (acc ++ (value ++ V))
  after a acc one value e h = ap (λ (x : List ℕ). F a (valued k (x ++ one))) (append-nil acc) ∙ h ∙ grouped acc one value e

  at_cr : (acc value : List ℕ) → ((next ≡ 32 ∷ []) × (value ≡ [])) ⊎ ((next ≡ []) × (value ≡ 32 ∷ [])) → F true (valued k ((acc ++ []) ++ 32 ∷ [])) ≡ valued k (acc ++ (value ++ V))
  at_cr acc value (inl h) =
      ap (λ (x : List ℕ). F true (valued k (x ++ 32 ∷ []))) (append-nil acc)
      ∙ ap (λ (x : List ℕ). F true (valued k (acc ++ x))) (sym h.0)
      ∙ known true acc
      ∙ ap (λ (x : List ℕ). valued k (acc ++ (x ++ V))) (sym h.1)
  at_cr acc value (inr h) =
      after true acc (32 ∷ []) value h.1
      (ap (λ (x : List ℕ). F true (valued k x)) (sym (append-nil (acc ++ 32 ∷ [])))
      ∙ ap (λ (x : List ℕ). F true (valued k ((acc ++ 32 ∷ []) ++ x))) (sym h.0)
      ∙ known true (acc ++ 32 ∷ []))

  raw_kept : (b : ℕ) (t u w : Bool) (value acc : List ℕ) → (t ≡ true → value ≡ 32 ∷ []) → (t ≡ false → u ≡ true → ((next ≡ 32 ∷ []) × (value ≡ [])) ⊎ ((next ≡ []) × (value ≡ 32 ∷ []))) →
      (u ≡ false → w ≡ true → value ≡ 32 ∷ []) → (u ≡ false → w ≡ false → value ≡ b ∷ []) →
      (let from : Kept = valued k (acc ++ space_if t) in by_way t u w (F false from) (F true (grown true (32 ∷ []) from)) (F false (grown true (32 ∷ []) from)) (F false (grown true (b ∷ []) from))) ≡ valued k (acc ++ (value ++ V))
  raw_kept b true u w value acc lf cr space other = plain (acc ++ 32 ∷ []) ∙ grouped acc (32 ∷ []) value (lf refl)
  raw_kept b false true w value acc lf cr space other = at_cr acc value (cr refl refl)
  raw_kept b false false true value acc lf cr space other = after false acc (32 ∷ []) value (space refl refl) (plain (acc ++ 32 ∷ []))
  raw_kept b false false false value acc lf cr space other = after false acc (b ∷ []) value (other refl refl) (plain (acc ++ b ∷ []))

-- what raw bytes give
normal_lf : (b : ℕ) (text : List ℕ) → b ≡ 10 → normalised b text ≡ 32 ∷ []
unfolding normalised is_space
normal_lf b text e = rw e refl

normal_tab : (b : ℕ) (text : List ℕ) → b ≡ 9 → normalised b text ≡ 32 ∷ []
unfolding normalised is_space
normal_tab b text e = rw e refl

cr_before : (x : ℕ) (text : List ℕ) (t : Bool) → (x == 10) ≡ t → AtCr (x ∷ text) (normalised 13 (x ∷ text))
unfolding normalised is_space
cr_before x text true e = inl (rw e refl, rw e refl)
cr_before x text false e = inr (rw e refl, rw e refl)

normal_cr : (text : List ℕ) → AtCr text (normalised 13 text)
unfolding normalised is_space
normal_cr [] = inr (refl, refl)
normal_cr (x ∷ text) = cr_before x text (x == 10) refl

normal_cr_at : (b : ℕ) (text : List ℕ) → b ≡ 13 → AtCr text (normalised b text)
normal_cr_at b text e = rw e (normal_cr text)

normal_space : (b : ℕ) (text : List ℕ) (x y : Bool) → (b == 10) ≡ x → (b == 9) ≡ y → (x || y) ≡ true → normalised b text ≡ 32 ∷ []
normal_space b text true y e f h = normal_lf b text (eqb-true b 10 e)
normal_space b text false true e f h = normal_tab b text (eqb-true b 9 f)
normal_space b text false false e f h = absurd (cc)

normal_other : (b : ℕ) (text : List ℕ) (x : Bool) → (b == 32) ≡ x → (b == 13) ≡ false → (b == 10) ≡ false → (b == 9) ≡ false → normalised b text ≡ b ∷ []
unfolding normalised is_space
normal_other b text true e c l t = rw (eqb-true b 32 e) refl
normal_other b text false e c l t = rw (c, e, t, l) refl

or_split : (a b : Bool) → (a || b) ≡ false → (a ≡ false) × (b ≡ false)
or_split true b h = absurd (cc)
or_split false b h = (refl, h)

no_line_end : (quote : ℕ) (t u : Bool) → (quote == 39) ≡ t → (quote == 34) ≡ u → (t || u) ≡ true → (quote == 10) ≡ false
no_line_end quote true u e f h = rw (eqb-true quote 39 e) refl
no_line_end quote false true e f h = rw (eqb-true quote 34 f) refl
no_line_end quote false false e f h = absurd (cc)

module _ (quote : ℕ) (no_lf : (quote == 10) ≡ false) (k : Kept) where
  quote_front : (after_cr : Bool) (rest : List ℕ) → early after_cr (quote ∷ rest) ≡ []
  quote_front true rest = rw no_lf refl
  quote_front false rest = refl

  same_early : (after_cr : Bool) (text : List ℕ) → early after_cr text ≡ (if after_cr then early true text else [])
  same_early true text = refl
  same_early false text = refl

  value_is : {text rest : List ℕ} (v : Value quote text rest) (after_cr : Bool) (acc : List ℕ) → value_kept true v after_cr (valued k (acc ++ early after_cr text)) ≡ valued k (acc ++ value_of v)
  unfolding value_kept value_of
  value_is (Value.ends {rest = rest}) after_cr acc = ap (λ (x : List ℕ). valued k (acc ++ x)) (quote_front after_cr rest)
  value_is (Value.char {b = b} {text = text} {rest = rest} e v) after_cr acc =
      ap (λ (x : List ℕ). let c : Value quote (b ∷ text) rest = Value.char e v in value_kept true c after_cr (valued k (acc ++ x))) (early_is after_cr b text)
      ∙ raw_kept k (value_of v) (early true text) (λ a k. value_kept true v a k)
      (λ a acc. ap (λ (x : List ℕ). value_kept true v a (valued k (acc ++ x))) (sym (same_early a text)) ∙ value_is v a acc)
      b (b == 10 && after_cr) (b == 13) (b == 10 || b == 9) (normalised b text) acc
      (λ h. normal_lf b text (eqb-true b 10 (both (b == 10) after_cr h).0))
      (λ _ h. normal_cr_at b text (eqb-true b 13 h))
      (λ _ h. normal_space b text (b == 10) (b == 9) refl refl h)
      (λ c h. let o = or_split (b == 10) (b == 9) h in normal_other b text (b == 32) refl c o.0 o.1)
  value_is (Value.reference {text = text} r v) after_cr acc =
      ap (λ (x : List ℕ). value_kept true v false (grown true (encode_utf8 (character_of r)) (valued k (acc ++ x)))) (amp_front after_cr text)
      ∙ ap (λ (x : List ℕ). value_kept true v false (valued k (x ++ encode_utf8 (character_of r)))) (append-nil acc)
      ∙ ap (λ (x : List ℕ). value_kept true v false (valued k x)) (sym (append-nil (acc ++ encode_utf8 (character_of r))))
      ∙ value_is v false (acc ++ encode_utf8 (character_of r))
      ∙ ap (λ (x : List ℕ). valued k x) (append_assoc acc (encode_utf8 (character_of r)) (value_of v))
    where
      amp_front : (after_cr : Bool) (text : List ℕ) → early after_cr (38 ∷ text) ≡ []
      amp_front true text = refl
      amp_front false text = refl

-- a value that no body's tag has
same_way : (t u w : Bool) (a b c d k : Kept) → a ≡ k → b ≡ k → c ≡ k → d ≡ k → by_way t u w a b c d ≡ k
same_way true u w a b c d k e f g h = e
same_way false true w a b c d k e f g h = f
same_way false false true a b c d k e f g h = g
same_way false false false a b c d k e f g h = h

value_passed : {quote : ℕ} {text rest : List ℕ} (v : Value quote text rest) (after_cr : Bool) (k : Kept) → value_kept false v after_cr k ≡ k
unfolding value_kept
value_passed Value.ends after_cr k = refl
value_passed (Value.char {b = b} e v) after_cr k =
    same_way (b == 10 && after_cr) (b == 13) (b == 10 || b == 9) _ _ _ _ k (value_passed v false k) (value_passed v true k) (value_passed v false k) (value_passed v false k)
value_passed (Value.reference r v) after_cr k = value_passed v false k

-- a tag that is no body's
pub tag_passed : (len : ℕ) {seen : List (List ℕ)} {spaced is_empty : Bool} {text rest : List ℕ} (t : TagRest seen spaced is_empty text rest) (k : Kept) → tag_kept false len t k ≡ (let passed : Kept = record k { too_many_attributes = exceeded t k.too_many_attributes } in passed)
unfolding tag_kept exceeded
tag_passed len TagRest.empty k = refl
tag_passed len TagRest.opens k = refl
tag_passed len (TagRest.space e t) k = tag_passed len t k
tag_passed len (TagRest.attribute {seen = seen} {name = name} n fresh before after q v t) k = ap (tag_kept false len t) (value_passed v false (counted (with_name seen name) k)) ∙ tag_passed len t _

-- what is kept of the body's tag
abbrev pub with_attrs : Kept → List Attr → Bool → Kept
with_attrs k attrs many = record k { value = []; attrs = attrs; too_many_attributes = many }

pub tag_is : (len : ℕ) (k : Kept) {seen : List (List ℕ)} {spaced is_empty : Bool} {text rest : List ℕ} (t : TagRest seen spaced is_empty text rest) (attrs : List Attr) (many : Bool) →
    tag_kept true len t (with_attrs k attrs many) ≡ with_attrs k (attrs ++ attributes_of len t) (exceeded t many)
unfolding tag_kept exceeded attributes_of
tag_is len k TagRest.empty attrs many = ap (λ (x : List Attr). with_attrs k x many) (sym (append-nil attrs))
tag_is len k TagRest.opens attrs many = ap (λ (x : List Attr). with_attrs k x many) (sym (append-nil attrs))
tag_is len k (TagRest.space e t) attrs many = tag_is len k t attrs many
tag_is len k (TagRest.attribute {seen = seen} {name = name} {text = text} {before_equals = after_name} {quote = quote} n fresh before after q v t) attrs many =
    ap (λ (x : Kept). tag_kept true len t (attributed true (between len text after_name) x))
    (value_is quote (no_line_end quote (quote == 39) (quote == 34) refl refl q) (counted (with_name seen name) (with_attrs k attrs many)) v false [])
    ∙ tag_is len k t (attrs ++ record { name = between len text after_name; value = value_of v } ∷ []) (many || nat_lt 32 (length (with_name seen name)))
    ∙ ap (λ (x : List Attr). with_attrs k x (exceeded t (many || nat_lt 32 (length (with_name seen name))))) (append_assoc attrs _ (attributes_of len t))
