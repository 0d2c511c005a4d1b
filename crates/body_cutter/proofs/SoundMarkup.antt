-- What completes a place after a `<` in content, from what completes the place after one byte more.
use Rattle.std.proofs.Common.{◌≡◌, ℕ, suc, zero, Bool, true, false, List, [], ◌∷◌, refl, sym, ap, subst, arith, add-one}
use Rattle.std.specs.Prelude.{Option, None, Some, nat_lt, ◌==◌, ◌&&◌, slice_get}
use Rattle.std.proofs.lemmas.Bool.{eqb-true, ltb-true}
use Rattle.body_cutter.specs.declared.place.Place.{Place}
use Rattle.body_cutter.specs.declared.place.Place.TheVariants.{StanzaStart, Content as InContent, Opened, SectionWord, Section as InSection, EndName, EndSpace}
use Rattle.body_cutter.specs.declared.place.Act.TheVariants.{Pass}
use Rattle.body_cutter.specs.declared.place.Kind.{Kind}
use Rattle.body_cutter.specs.declared.place.Kind.TheVariants as kinds
use Rattle.body_cutter.specs.Chars.{is_space, is_name_start, is_char_byte, is_plain}
use Rattle.body_cutter.specs.Names.{around, due, with_count}
use Rattle.body_cutter.specs.Tables.{goes, opened_next, opened_in_body, opened_in_child, section_word_next, section_letter, section_next, more_brackets, end_name_next, end_space_next, stanza_start_next}
use Rattle.body_cutter.specs.Grammar.{Spaces, Name, TagRest, Section, EndTag, Exactly, Element, Content, Children, Single, ends_section}
use Rattle.body_cutter.proofs.Control.{Control, done}
use Rattle.body_cutter.proofs.Completes.{At, Ends, ChildEnds, Counted, AfterLess, ForChild, AfterTag, section_front, left}
use Rattle.body_cutter.proofs.Leads.{Goes, Known, ctl, split, only, leads, both}
use Rattle.body_cutter.proofs.SoundTags.{ends_zero, byte_here}
use Rattle.body_cutter.proofs.SoundContent.{and_true}

-- an element in a child, and what follows it
element_in_body : (name text after inner : List ℕ) (outer : List (List ℕ)) → Name name text after → (is_empty : Bool) (rest : List ℕ) → TagRest [] false is_empty after rest → AfterTag kinds.Body name (inner ∷ outer) is_empty rest → (end : List ℕ) × Element text end × Ends kinds.Body (inner ∷ outer) end
element_in_body name text after inner outer n true rest t a = (rest, Element.empty_element n t, a)
element_in_body name text after inner outer n false rest t a = (a.1, Element.full_element n t a.2 a.3, a.4)

element_in_stanza : (name text after : List ℕ) (outer : List (List ℕ)) → Name name text after → (is_empty : Bool) (rest : List ℕ) → TagRest [] false is_empty after rest → AfterTag kinds.Stanza name outer is_empty rest → (end : List ℕ) × Element text end × Ends kinds.Stanza outer end
element_in_stanza name text after outer n true rest t a = (rest, Element.empty_element n t, a)
element_in_stanza name text after outer n false rest t a = (a.1, Element.full_element n t a.2 a.3, a.4)

module _ (name : List ℕ) (P : List ℕ → Type 0) where
  add_element : (text after : List ℕ) → Element text after → ChildEnds name P after → ChildEnds name P (60 ∷ text)
  add_element text after e k = (k.0, k.1, Content.child_element e k.2, k.3, k.4)

  add_section : (text after : List ℕ) → Section text after → ChildEnds name P after → ChildEnds name P (60 ∷ 33 ∷ 91 ∷ 67 ∷ 68 ∷ 65 ∷ 84 ∷ 65 ∷ 91 ∷ text)
  add_section text after s k = (k.0, k.1, Content.section s k.2, k.3, k.4)

  -- an end tag here
  end_here : (text after rest : List ℕ) → Exactly name text after → Spaces after (62 ∷ rest) → P rest → ChildEnds name P (60 ∷ 47 ∷ text)
  end_here text after rest e s p = (text, rest, Content.no_content, EndTag.ends e s, p)

single_of : (text end : List ℕ) → end ≡ [] → Element text end → Single (60 ∷ text)
single_of text end e x = Single.single (subst (λ (r : List ℕ). Element text r) e x)

-- where the place is after `</` or in a name
in_body : (inner : List ℕ) (outer : List (List ℕ)) (name : List ℕ) (seen : List (List ℕ)) (place : Place) (b : ℕ) (text : List ℕ) → Known kinds.Body text → Goes kinds.Body (ctl place (inner ∷ outer) name seen) b text (opened_in_body b) → AfterLess kinds.Body (inner ∷ outer) (b ∷ text)
unfolding opened_in_body done
in_body inner [] name seen place b text known h =
    split (b == 47) _ _ h
    (λ t g. let k = known _ (leads _ g) in subst (λ x. Ends kinds.Body (inner ∷ []) (60 ∷ x ∷ text)) (sym (eqb-true b 47 t)) (text, k.1, Children.none, EndTag.ends k.2 k.3, k.4))
    (λ _ g. let o = only (is_name_start b) _ _ g in
    let k = known _ (leads _ o.1) in
    let i = k.3 in
    let e = element_in_body (b ∷ k.0) (b ∷ text) k.1 inner [] (Name.begins o.0 k.2) i.0 i.1 i.2 i.3 in
    let r = e.2 in
    (r.0, r.1, Children.child e.1 r.2, r.3, r.4))
in_body inner (next ∷ outer) name seen place b text known h =
    split (b == 47) _ _ h
    (λ t g. let k = known _ (leads _ g) in subst (λ x. Ends kinds.Body (inner ∷ next ∷ outer) (60 ∷ x ∷ text)) (sym (eqb-true b 47 t)) (end_here inner (λ rest. Ends kinds.Body (next ∷ outer) rest) text k.0 k.1 k.2 k.3 k.4))
    (λ _ g. let o = only (is_name_start b) _ _ g in
    let k = known _ (leads _ o.1) in
    let i = k.3 in
    let e = element_in_body (b ∷ k.0) (b ∷ text) k.1 inner (next ∷ outer) (Name.begins o.0 k.2) i.0 i.1 i.2 i.3 in
    add_element inner (λ rest. Ends kinds.Body (next ∷ outer) rest) (b ∷ text) e.0 e.1 e.2)

in_stanza : (inner : List ℕ) (outer : List (List ℕ)) (name : List ℕ) (seen : List (List ℕ)) (place : Place) (b : ℕ) (text : List ℕ) → Known kinds.Stanza text → Goes kinds.Stanza (ctl place (inner ∷ outer) name seen) b text (opened_in_body b) → AfterLess kinds.Stanza (inner ∷ outer) (b ∷ text)
unfolding opened_in_body done
in_stanza inner outer name seen place b text known h =
    split (b == 47) _ _ h
    (λ t g. let k = known _ (leads _ g) in subst (λ x. Ends kinds.Stanza (inner ∷ outer) (60 ∷ x ∷ text)) (sym (eqb-true b 47 t)) (end_here inner (λ rest. Ends kinds.Stanza outer rest) text k.0 k.1 k.2 k.3 k.4))
    (λ _ g. let o = only (is_name_start b) _ _ g in
    let k = known _ (leads _ o.1) in
    let i = k.3 in
    let e = element_in_stanza (b ∷ k.0) (b ∷ text) k.1 (inner ∷ outer) (Name.begins o.0 k.2) i.0 i.1 i.2 i.3 in
    add_element inner (λ rest. Ends kinds.Stanza outer rest) (b ∷ text) e.0 e.1 e.2)

pub from_opened : (kind : Kind) (elements : List (List ℕ)) (name : List ℕ) (seen : List (List ℕ)) (b : ℕ) (text : List ℕ) → Known kind text → Goes kind (ctl Opened elements name seen) b text (opened_next (around kind elements) b) → At Opened kind elements name seen (b ∷ text)
unfolding around opened_next opened_in_child done
from_opened kinds.Body [] name seen b text known h = tt
from_opened kinds.Body (inner ∷ []) name seen b text known h = in_body inner [] name seen Opened b text known h
from_opened kinds.Body (inner ∷ next ∷ outer) name seen b text known h =
    split (b == 33) _ _ h
    (λ t g. subst (λ x. Ends kinds.Body (inner ∷ next ∷ outer) (60 ∷ x ∷ text)) (sym (eqb-true b 33 t)) (known _ (leads _ g)))
    (λ _ g. in_body inner (next ∷ outer) name seen Opened b text known g)
from_opened kinds.Stanza [] name seen b text known h =
    let o = only (is_name_start b) _ _ h in
    let k = known _ (leads _ o.1) in
    let i = k.3 in
    let e = element_in_stanza (b ∷ k.0) (b ∷ text) k.1 [] (Name.begins o.0 k.2) i.0 i.1 i.2 i.3 in
    single_of (b ∷ text) e.0 e.2 e.1
from_opened kinds.Stanza (inner ∷ outer) name seen b text known h =
    split (b == 33) _ _ h
    (λ t g. subst (λ x. Ends kinds.Stanza (inner ∷ outer) (60 ∷ x ∷ text)) (sym (eqb-true b 33 t)) (known _ (leads _ g)))
    (λ _ g. in_stanza inner outer name seen Opened b text known g)

pub from_stanza_start : (kind : Kind) (elements : List (List ℕ)) (name : List ℕ) (seen : List (List ℕ)) (b : ℕ) (text : List ℕ) → Known kind text → Goes kind (ctl StanzaStart elements name seen) b text (stanza_start_next b) → At StanzaStart kind elements name seen (b ∷ text)
unfolding stanza_start_next done
from_stanza_start kinds.Body elements name seen b text known h = tt
from_stanza_start kinds.Stanza (inner ∷ outer) name seen b text known h = λ e. absurd (cc)
from_stanza_start kinds.Stanza [] name seen b text known h = λ _. let o = only (b == 60) _ _ h in subst (λ x. Single (x ∷ text)) (sym (eqb-true b 60 o.0)) (known _ (leads _ o.1))

-- a fact of a child's text is carried over
for_child : (kind : Kind) (elements : List (List ℕ)) (P Q : Type 0) → (P → Q) → ForChild kind elements P → ForChild kind elements Q
for_child kinds.Body [] P Q f p = tt
for_child kinds.Body (name ∷ []) P Q f p = tt
for_child kinds.Body (name ∷ outer ∷ others) P Q f p = f p
for_child kinds.Stanza [] P Q f p = tt
for_child kinds.Stanza (name ∷ others) P Q f p = f p

section_follows : (kind : Kind) (elements : List (List ℕ)) (text : List ℕ) → ForChild kind elements ((after : List ℕ) × Section text after × Ends kind elements after) → ForChild kind elements (Ends kind elements (60 ∷ 33 ∷ 91 ∷ 67 ∷ 68 ∷ 65 ∷ 84 ∷ 65 ∷ 91 ∷ text))
section_follows kinds.Body [] text p = tt
section_follows kinds.Body (name ∷ []) text p = tt
section_follows kinds.Body (name ∷ outer ∷ others) text p = add_section name (λ rest. Ends kinds.Body (outer ∷ others) rest) text p.0 p.1 p.2
section_follows kinds.Stanza [] text p = tt
section_follows kinds.Stanza (name ∷ others) text p = add_section name (λ rest. Ends kinds.Stanza others rest) text p.0 p.1 p.2

-- one byte more of `[CDATA[`
letter_more : (kind : Kind) (elements : List (List ℕ)) (front : List ℕ → List ℕ) (b n : ℕ) (text : List ℕ) → (b == n) ≡ true → ForChild kind elements (Ends kind elements (front (n ∷ text))) → ForChild kind elements (Ends kind elements (front (b ∷ text)))
letter_more kind elements front b n text t p = rw (eqb-true b n t) p

pub from_section_word : (count : ℕ) (kind : Kind) (elements : List (List ℕ)) (name : List ℕ) (seen : List (List ℕ)) (b : ℕ) (text : List ℕ) → Known kind text → Goes kind (ctl (SectionWord count) elements name seen) b text (section_word_next count b) → At (SectionWord count) kind elements name seen (b ∷ text)
unfolding section_word_next section_letter done
from_section_word zero kind elements name seen b text known h = let o = only (b == 91) _ _ h in letter_more kind elements (section_front 0) b 91 text o.0 (known _ (leads _ o.1))
from_section_word (suc zero) kind elements name seen b text known h = let o = only (b == 67) _ _ h in letter_more kind elements (section_front 1) b 67 text o.0 (known _ (leads _ o.1))
from_section_word (suc (suc zero)) kind elements name seen b text known h = let o = only (b == 68) _ _ h in letter_more kind elements (section_front 2) b 68 text o.0 (known _ (leads _ o.1))
from_section_word (suc (suc (suc zero))) kind elements name seen b text known h = let o = only (b == 65) _ _ h in letter_more kind elements (section_front 3) b 65 text o.0 (known _ (leads _ o.1))
from_section_word (suc (suc (suc (suc zero)))) kind elements name seen b text known h = let o = only (b == 84) _ _ h in letter_more kind elements (section_front 4) b 84 text o.0 (known _ (leads _ o.1))
from_section_word (suc (suc (suc (suc (suc zero))))) kind elements name seen b text known h = let o = only (b == 65) _ _ h in letter_more kind elements (section_front 5) b 65 text o.0 (known _ (leads _ o.1))
from_section_word (suc (suc (suc (suc (suc (suc n)))))) kind elements name seen b text known h =
    split (nat_lt (suc (suc (suc (suc (suc (suc n)))))) 6) _ _ h
    (λ t _. absurd (omega (arith, ltb-true (suc (suc (suc (suc (suc (suc n)))))) 6 t)))
    (λ _ g. let o = only (b == 91) _ _ g in letter_more kind elements (section_front 6) b 91 text o.0 (section_follows kind elements text (known _ (leads _ o.1))))

-- a section from here
abbrev Sections : (List ℕ → Type 0) → List ℕ → Type 0
Sections P text = (after : List ℕ) × Section text after × P after

section_char : (P : List ℕ → Type 0) (b : ℕ) (text : List ℕ) → is_char_byte b ≡ true → ends_section (b ∷ text) ≡ false → Sections P text → Sections P (b ∷ text)
section_char P b text c e k = (k.0, Section.char c e k.1, k.2)

section_counted : (P : List ℕ → Type 0) (count b : ℕ) (text : List ℕ) → (b == 93) ≡ false → (b == 62 && count == 2) ≡ false → Sections P (b ∷ text) → Counted count (Sections P) (b ∷ text)
unfolding is_char_byte is_plain
section_counted P zero b text e f k = k
section_counted P (suc zero) b text e f k = section_char P 93 (b ∷ text) refl (rw e refl) k
section_counted P (suc (suc zero)) b text e f k = section_char P 93 (93 ∷ b ∷ text) refl (rw (and_true (b == 62) f) refl) (section_char P 93 (b ∷ text) refl (rw e refl) k)
section_counted P (suc (suc (suc n))) b text e f k = tt

section_more : (P : List ℕ → Type 0) (count b : ℕ) (text : List ℕ) → (b == 93) ≡ true → Counted (more_brackets count) (Sections P) text → Counted count (Sections P) (b ∷ text)
unfolding more_brackets is_char_byte is_plain
section_more P zero b text t k = rw (eqb-true b 93 t) k
section_more P (suc zero) b text t k = rw (eqb-true b 93 t) k
section_more P (suc (suc zero)) b text t k = rw (eqb-true b 93 t) (section_char P 93 (93 ∷ 93 ∷ text) refl refl k)
section_more P (suc (suc (suc n))) b text t k = tt

section_ends : (P : List ℕ → Type 0) (count b : ℕ) (text : List ℕ) → (b == 62 && count == 2) ≡ true → P text → Counted count (Sections P) (b ∷ text)
section_ends P zero b text t p = absurd_of (both (b == 62) false t)
  where
    absurd_of : {Q : Type 0} → ((b == 62) ≡ true) × (false ≡ true) → Q
    absurd_of h = absurd (cc (h.1))
section_ends P (suc zero) b text t p = absurd_of (both (b == 62) false t)
  where
    absurd_of : {Q : Type 0} → ((b == 62) ≡ true) × (false ≡ true) → Q
    absurd_of h = absurd (cc (h.1))
section_ends P (suc (suc zero)) b text t p = rw (eqb-true b 62 (both (b == 62) true t).0) (text, Section.ends, p)
section_ends P (suc (suc (suc n))) b text t p = tt

section_step : (kind : Kind) (c : Control) (P : List ℕ → Type 0) (count b : ℕ) (text : List ℕ) →
    ((n : ℕ) → Goes kind c b text (goes (InSection n) Pass) → Counted n (Sections P) text) →
    (Goes kind c b text (goes (InContent 0) Pass) → P text) →
    Goes kind c b text (section_next count b) → Counted count (Sections P) (b ∷ text)
unfolding section_next
section_step kind c P count b text inside after h =
    split (b == 93) _ _ h
    (λ t g. section_more P count b text t (inside (more_brackets count) g))
    (λ e g. split (b == 62 && count == 2) _ _ g
    (λ t g. section_ends P count b text t (after g))
    (λ f g. let o = only (is_char_byte b) _ _ g in section_counted P count b text e f (section_char P b text o.0 (rw e refl) (inside 0 o.1))))

pub from_section : (count : ℕ) (kind : Kind) (elements : List (List ℕ)) (name : List ℕ) (seen : List (List ℕ)) (b : ℕ) (text : List ℕ) → Known kind text → Goes kind (ctl (InSection count) elements name seen) b text (section_next count b) → At (InSection count) kind elements name seen (b ∷ text)
unfolding done
from_section count kinds.Body [] name seen b text known h = tt
from_section count kinds.Body (inner ∷ []) name seen b text known h = tt
from_section count kinds.Body (inner ∷ outer ∷ others) name seen b text known h =
    section_step kinds.Body _ (λ after. Ends kinds.Body (inner ∷ outer ∷ others) after) count b text (λ n g. known _ (leads _ g)) (λ g. known _ (leads _ g)) h
from_section count kinds.Stanza [] name seen b text known h = tt
from_section count kinds.Stanza (inner ∷ others) name seen b text known h =
    section_step kinds.Stanza _ (λ after. Ends kinds.Stanza (inner ∷ others) after) count b text (λ n g. known _ (leads _ g)) (λ g. known _ (leads _ g)) h

-- what is left of a name after so many bytes
left_none : (name : List ℕ) (count : ℕ) → slice_get name count ≡ None → left count name ≡ []
left_none [] zero e = refl
left_none [] (suc n) e = refl
left_none (b ∷ name) zero e = absurd (cc)
left_none (b ∷ name) (suc n) e = left_none name n e

left_some : (name : List ℕ) (count x : ℕ) → slice_get name count ≡ Some x → left count name ≡ x ∷ left (suc count) name
left_some [] zero x e = absurd (cc)
left_some [] (suc n) x e = absurd (cc)
left_some (b ∷ name) zero x e = ap (λ (y : ℕ). y ∷ name) (cc)
left_some (b ∷ name) (suc n) x e = left_some name n x e

-- after the name of an end tag
name_over : (kind : Kind) (inner : List ℕ) (outer : List (List ℕ)) (name : List ℕ) (seen : List (List ℕ)) (place : Place) (b : ℕ) (text : List ℕ) → Known kind text → Goes kind (ctl place (inner ∷ outer) name seen) b text (end_space_next b) → At EndSpace kind (inner ∷ outer) name seen (b ∷ text)
unfolding end_space_next done
name_over kind inner outer name seen place b text known h =
    split (b == 62) _ _ h
    (λ t g. (text, byte_here b 62 text t, ends_zero kind outer text (known _ (leads _ g))))
    (λ _ g. let o = only (is_space b) _ _ g in let k = known _ (leads _ o.1) in (k.0, Spaces.more o.0 k.1, k.2))

pub from_end_space : (kind : Kind) (elements : List (List ℕ)) (name : List ℕ) (seen : List (List ℕ)) (b : ℕ) (text : List ℕ) → Known kind text → Goes kind (ctl EndSpace elements name seen) b text (end_space_next b) → At EndSpace kind elements name seen (b ∷ text)
from_end_space kind [] name seen b text known h = tt
from_end_space kind (inner ∷ outer) name seen b text known h = name_over kind inner outer name seen EndSpace b text known h

exact_more : (b x : ℕ) (bytes rest text after : List ℕ) → bytes ≡ x ∷ rest → (b == x) ≡ true → Exactly rest text after → Exactly bytes (b ∷ text) after
exact_more b x bytes rest text after e t k = rw (e, eqb-true b x t) (Exactly.more k)

end_name_step : (count : ℕ) (kind : Kind) (inner : List ℕ) (outer : List (List ℕ)) (name : List ℕ) (seen : List (List ℕ)) (b : ℕ) (text : List ℕ) (o : Option ℕ) → slice_get inner count ≡ o → Known kind text → Goes kind (ctl (EndName count) (inner ∷ outer) name seen) b text (end_name_next (with_count count o) b) → At (EndName count) kind (inner ∷ outer) name seen (b ∷ text)
unfolding end_name_next done
end_name_step count kind inner outer name seen b text None e known h =
    let k = name_over kind inner outer name seen (EndName count) b text known h in
    (b ∷ text, k.0, subst (λ (bytes : List ℕ). Exactly bytes (b ∷ text) (b ∷ text)) (sym (left_none inner count e)) Exactly.none, k.1, k.2)
end_name_step count kind inner outer name seen b text (Some x) e known h =
    let o = only (b == x) _ _ h in
    let k = known _ (leads _ o.1) in
    (k.0, k.1, exact_more b x (left count inner) (left (suc count) inner) text k.0 (left_some inner count x e) o.0 (subst (λ (n : ℕ). Exactly (left n inner) text k.0) (add-one count) k.2), k.3, k.4)

pub from_end_name : (count : ℕ) (kind : Kind) (elements : List (List ℕ)) (name : List ℕ) (seen : List (List ℕ)) (b : ℕ) (text : List ℕ) → Known kind text → Goes kind (ctl (EndName count) elements name seen) b text (end_name_next (due elements count) b) → At (EndName count) kind elements name seen (b ∷ text)
unfolding due
from_end_name count kind [] name seen b text known h = tt
from_end_name count kind (inner ∷ outer) name seen b text known h = end_name_step count kind inner outer name seen b text (slice_get inner count) refl known h
