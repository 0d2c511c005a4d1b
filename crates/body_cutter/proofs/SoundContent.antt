-- What completes a place between tags, from what completes the place after one byte more.
use Rattle.std.proofs.Common.{◌≡◌, ℕ, suc, zero, Bool, true, false, List, [], ◌∷◌, refl, sym, subst}
use Rattle.std.specs.Prelude.{◌==◌, ◌&&◌}
use Rattle.std.proofs.lemmas.Bool.{eqb-true}
use Rattle.body_cutter.specs.declared.place.Place.TheVariants.{Content as InContent, Opened}
use Rattle.body_cutter.specs.declared.place.Act.TheVariants.{Pass}
use Rattle.body_cutter.specs.declared.place.Kind.{Kind}
use Rattle.body_cutter.specs.declared.place.Kind.TheVariants as kinds
use Rattle.body_cutter.specs.Chars.{is_space, is_char_byte, is_plain}
use Rattle.body_cutter.specs.Names.{around}
use Rattle.body_cutter.specs.Tables.{goes, begins_reference, content_next, body_content_next, child_content_next, more_brackets}
use Rattle.body_cutter.specs.Grammar.{Spaces, ReferenceRest, Content, Children, is_data_byte, ends_section}
use Rattle.body_cutter.proofs.Control.{Control, done}
use Rattle.body_cutter.proofs.Completes.{At, Ends, ChildEnds, Counted}
use Rattle.body_cutter.proofs.Leads.{Goes, Known, ctl, split, only, dead, leads}

-- a byte that is one isn't another
pub other : (b n m : ℕ) → (b == n) ≡ true → (n == m) ≡ false → (b == m) ≡ false
other b n m t e = rw (eqb-true b n t) e

pub and_true : (t : Bool) → (t && true) ≡ false → t ≡ false
and_true true h = h
and_true false h = refl

data_byte : (b : ℕ) → is_char_byte b ≡ true → (b == 60) ≡ false → (b == 38) ≡ false → is_data_byte b ≡ true
data_byte b c l a = rw (c, l, a) refl

module _ (name : List ℕ) (P : List ℕ → Type 0) where
  add_char : (b : ℕ) (text : List ℕ) → is_data_byte b ≡ true → ends_section (b ∷ text) ≡ false → ChildEnds name P text → ChildEnds name P (b ∷ text)
  add_char b text d e k = (k.0, k.1, Content.char d e k.2, k.3, k.4)

  -- a `]` that no `]>` follows
  add_bracket : (b : ℕ) (text : List ℕ) → (b == 93) ≡ false → ChildEnds name P (b ∷ text) → ChildEnds name P (93 ∷ b ∷ text)
  unfolding is_char_byte is_plain
  add_bracket b text e k = add_char 93 (b ∷ text) refl (rw e refl) k

  add_two : (b : ℕ) (text : List ℕ) → (b == 62) ≡ false → ChildEnds name P (93 ∷ b ∷ text) → ChildEnds name P (93 ∷ 93 ∷ b ∷ text)
  unfolding is_char_byte is_plain
  add_two b text e k = add_char 93 (93 ∷ b ∷ text) refl (rw e refl) k

  -- a byte that is no `]`, nor a `>` after two of them
  counted : (count b : ℕ) (text : List ℕ) → (b == 93) ≡ false → (b == 62 && count == 2) ≡ false → ChildEnds name P (b ∷ text) → Counted count (ChildEnds name P) (b ∷ text)
  counted zero b text e f k = k
  counted (suc zero) b text e f k = add_bracket b text e k
  counted (suc (suc zero)) b text e f k = add_two b text (and_true (b == 62) f) (add_bracket b text e k)
  counted (suc (suc (suc n))) b text e f k = tt

  -- one `]` more
  one_more : (count b : ℕ) (text : List ℕ) → (b == 93) ≡ true → Counted (more_brackets count) (ChildEnds name P) text → Counted count (ChildEnds name P) (b ∷ text)
  unfolding more_brackets is_char_byte is_plain
  one_more zero b text t k = rw (eqb-true b 93 t) k
  one_more (suc zero) b text t k = rw (eqb-true b 93 t) k
  one_more (suc (suc zero)) b text t k = rw (eqb-true b 93 t) (add_char 93 (93 ∷ 93 ∷ text) refl refl k)
  one_more (suc (suc (suc n))) b text t k = tt

  -- in a child
  child_content : (kind : Kind) (c : Control) (count b : ℕ) (text : List ℕ) →
      (Goes kind c b text (goes Opened Pass) → ChildEnds name P (60 ∷ text)) →
      (Goes kind c b text (begins_reference (InContent 0)) → (after : List ℕ) × ReferenceRest text after × ChildEnds name P after) →
      ((n : ℕ) → Goes kind c b text (goes (InContent n) Pass) → Counted n (ChildEnds name P) text) →
      Goes kind c b text (child_content_next count b) → Counted count (ChildEnds name P) (b ∷ text)
  unfolding child_content_next
  child_content kind c count b text opened reference content h =
      split (b == 60) _ _ h
      (λ t g. counted count b text (other b 60 93 t refl) (rw (other b 60 62 t refl) refl) (rw (eqb-true b 60 t) (opened g)))
      (λ l g. split (b == 38) _ _ g
      (λ t g. let k = reference g in counted count b text (other b 38 93 t refl) (rw (other b 38 62 t refl) refl) (with_reference b text t k.0 k.1 k.2))
      (λ a g. split (b == 93) _ _ g
      (λ t g. one_more count b text t (content (more_brackets count) g))
      (λ e g. split (b == 62 && count == 2) _ _ g
      (λ _ g. absurd (dead g))
      (λ f g. let o = only (is_char_byte b) _ _ g in
      counted count b text e f (add_char b text (data_byte b o.0 l a) (rw e refl) (content 0 o.1))))))
    where
      with_reference : (b : ℕ) (text : List ℕ) → (b == 38) ≡ true → (after : List ℕ) → ReferenceRest text after → ChildEnds name P after → ChildEnds name P (b ∷ text)
      with_reference b text t after r k = rw (eqb-true b 38 t) (k.0, k.1, Content.reference r k.2, k.3, k.4)

pub from_content : (count : ℕ) (kind : Kind) (elements : List (List ℕ)) (name : List ℕ) (seen : List (List ℕ)) (b : ℕ) (text : List ℕ) → Known kind text → Goes kind (ctl (InContent count) elements name seen) b text (content_next (around kind elements) count b) → At (InContent count) kind elements name seen (b ∷ text)
unfolding around content_next body_content_next done
from_content count kinds.Body [] name seen b text known h = let o = only (is_space b) _ _ h in Spaces.more o.0 (known _ (leads _ o.1))
from_content count kinds.Body (inner ∷ []) name seen b text known h =
    split (b == 60) _ _ h
    (λ t g. subst (λ x. Ends kinds.Body (inner ∷ []) (x ∷ text)) (sym (eqb-true b 60 t)) (known _ (leads _ g)))
    (λ _ g. let o = only (is_space b) _ _ g in let k = known _ (leads _ o.1) in (k.0, k.1, Children.space o.0 k.2, k.3, k.4))
from_content count kinds.Body (inner ∷ outer ∷ others) name seen b text known h =
    child_content inner (λ rest. Ends kinds.Body (outer ∷ others) rest) kinds.Body _ count b text
    (λ g. known _ (leads _ g)) (λ g. known _ (leads _ g)) (λ n g. known _ (leads _ g)) h
from_content count kinds.Stanza [] name seen b text known h = absurd (dead h)
from_content count kinds.Stanza (inner ∷ others) name seen b text known h =
    child_content inner (λ rest. Ends kinds.Stanza others rest) kinds.Stanza _ count b text
    (λ g. known _ (leads _ g)) (λ g. known _ (leads _ g)) (λ n g. known _ (leads _ g)) h
