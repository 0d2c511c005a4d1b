-- What completes a place before the body's attributes, from what completes the place after one byte more.
use Rattle.std.proofs.Common.{◌≡◌, ◌∙◌, ℕ, suc, zero, Bool, true, false, List, [], ◌∷◌, ◌++◌, refl, ap, subst, arith}
use Rattle.std.specs.Prelude.{nat_lt, ◌==◌}
use Rattle.std.proofs.lemmas.Bool.{eqb-true, ltb-true}
use Rattle.body_cutter.specs.declared.place.Place.TheVariants.{Start, First, DeclarationWord, Declaration, Prolog, BodyWord}
use Rattle.body_cutter.specs.declared.place.Kind.{Kind}
use Rattle.body_cutter.specs.declared.place.Kind.TheVariants as kinds
use Rattle.body_cutter.specs.Chars.{is_space, is_char_byte, is_plain}
use Rattle.body_cutter.specs.Tables.{start_next, first_next, declaration_word_next, xml_letter, declaration_next, prolog_next, body_word_next, body_letter}
use Rattle.body_cutter.specs.Grammar.{Spaces, DeclarationRest, SpacedBody, Document, BodyRest, TagRest, EndTag}
use Rattle.body_cutter.proofs.Control.{done}
use Rattle.body_cutter.proofs.Completes.{At, AfterTag, mark}
use Rattle.body_cutter.proofs.SoundTags.{from_name_ended}
use Rattle.body_cutter.proofs.Leads.{Goes, Known, ctl, split, only, leads}

spaced_more : {b : ℕ} {text : List ℕ} → is_space b ≡ true → SpacedBody text → SpacedBody (b ∷ text)
spaced_more e (SpacedBody.spaced s body t) = SpacedBody.spaced (Spaces.more e s) body t

pub from_start : (kind : Kind) (elements : List (List ℕ)) (name : List ℕ) (seen : List (List ℕ)) (b : ℕ) (text : List ℕ) → Known kind text → Goes kind (ctl Start elements name seen) b text (start_next b) → At Start kind elements name seen (b ∷ text)
unfolding start_next done
from_start kinds.Stanza elements name seen b text known h = tt
from_start kinds.Body elements name seen b text known h = λ e f.
    split (b == 60) _ _ h
    (λ t g. rw (eqb-true b 60 t) (known _ (leads _ g) e f))
    (λ _ g. let o = only (is_space b) _ _ g in Document.plain (spaced_more o.0 (known _ (leads _ o.1) e f)))

-- one letter more of a name
grown : {name letters : List ℕ} (b letter : ℕ) → name ≡ letters → (b == letter) ≡ true → name ++ b ∷ [] ≡ letters ++ letter ∷ []
grown {name} {letters} b letter e t = ap (λ n. n ++ b ∷ []) e ∙ ap (λ x. letters ++ x ∷ []) (eqb-true b letter t)

pub from_first : (kind : Kind) (elements : List (List ℕ)) (name : List ℕ) (seen : List (List ℕ)) (b : ℕ) (text : List ℕ) → Known kind text → Goes kind (ctl First elements name seen) b text (first_next b) → At First kind elements name seen (b ∷ text)
unfolding first_next done
from_first kinds.Stanza elements name seen b text known h = tt
from_first kinds.Body elements name seen b text known h = λ e f.
    split (b == 63) _ _ h
    (λ t g. rw (eqb-true b 63 t) (known _ (leads _ g) e f))
    (λ _ g. let o = only (b == 98) _ _ g in rw (eqb-true b 98 o.0) (Document.plain (known _ (leads _ o.1) e (grown b 98 f o.0))))

pub from_declaration_word : (count : ℕ) (kind : Kind) (elements : List (List ℕ)) (name : List ℕ) (seen : List (List ℕ)) (b : ℕ) (text : List ℕ) → Known kind text → Goes kind (ctl (DeclarationWord count) elements name seen) b text (declaration_word_next count b) → At (DeclarationWord count) kind elements name seen (b ∷ text)
unfolding declaration_word_next xml_letter done
from_declaration_word count kinds.Stanza elements name seen b text known h = tt
from_declaration_word zero kinds.Body elements name seen b text known h = λ e f. let o = only (b == 120) _ _ h in rw (eqb-true b 120 o.0) (known _ (leads _ o.1) e f)
from_declaration_word (suc zero) kinds.Body elements name seen b text known h = λ e f. let o = only (b == 109) _ _ h in rw (eqb-true b 109 o.0) (known _ (leads _ o.1) e f)
from_declaration_word (suc (suc zero)) kinds.Body elements name seen b text known h = λ e f. let o = only (b == 108) _ _ h in rw (eqb-true b 108 o.0) (known _ (leads _ o.1) e f)
from_declaration_word (suc (suc (suc n))) kinds.Body elements name seen b text known h = λ e f.
    split (nat_lt (suc (suc (suc n))) 3) _ _ h
    (λ t _. absurd (omega (arith, ltb-true (suc (suc (suc n))) 3 t)))
    (λ _ g. let o = only (is_space b) _ _ g in let d = known _ (leads _ o.1) e f in Document.declared o.0 d.1 d.2)

declared_char : {text after : List ℕ} (b : ℕ) (t : Bool) → (b == 63) ≡ t → is_char_byte b ≡ true → DeclarationRest (mark t text) after → DeclarationRest (b ∷ text) after
declared_char b true e c d = rw (eqb-true b 63 e) d
declared_char b false e c d = DeclarationRest.char c (rw e refl) d

pub from_declaration : (after_mark : Bool) (kind : Kind) (elements : List (List ℕ)) (name : List ℕ) (seen : List (List ℕ)) (b : ℕ) (text : List ℕ) → Known kind text → Goes kind (ctl (Declaration after_mark) elements name seen) b text (declaration_next after_mark b) → At (Declaration after_mark) kind elements name seen (b ∷ text)
unfolding declaration_next done is_char_byte is_plain
from_declaration after_mark kinds.Stanza elements name seen b text known h = tt
from_declaration false kinds.Body elements name seen b text known h = λ e f.
    let o = only (is_char_byte b) _ _ h in
    let d = known _ (leads _ o.1) e f in
    (d.0, declared_char b (b == 63) refl o.0 d.1, d.2)
from_declaration true kinds.Body elements name seen b text known h = λ e f.
    split (b == 62) _ _ h
    (λ t g. (text, rw (eqb-true b 62 t) DeclarationRest.ends, known _ (leads _ g) e f))
    (λ t g. let o = only (is_char_byte b) _ _ g in
    let d = known _ (leads _ o.1) e f in
    (d.0, DeclarationRest.char refl (rw t refl) (declared_char b (b == 63) refl o.0 d.1), d.2))

pub from_prolog : (kind : Kind) (elements : List (List ℕ)) (name : List ℕ) (seen : List (List ℕ)) (b : ℕ) (text : List ℕ) → Known kind text → Goes kind (ctl Prolog elements name seen) b text (prolog_next b) → At Prolog kind elements name seen (b ∷ text)
unfolding prolog_next done
from_prolog kinds.Stanza elements name seen b text known h = tt
from_prolog kinds.Body elements name seen b text known h = λ e f.
    split (b == 60) _ _ h
    (λ t g. rw (eqb-true b 60 t) (known _ (leads _ g) e f))
    (λ _ g. let o = only (is_space b) _ _ g in spaced_more o.0 (known _ (leads _ o.1) e f))

-- the body after its name
body_of_tag : (name : List ℕ) (text : List ℕ) → name ≡ 98 ∷ 111 ∷ 100 ∷ 121 ∷ [] → (is_empty : Bool) (rest : List ℕ) → TagRest [] false is_empty text rest → AfterTag kinds.Body name [] is_empty rest → SpacedBody (60 ∷ 98 ∷ 111 ∷ 100 ∷ 121 ∷ text)
body_of_tag name text e true rest t a = SpacedBody.spaced Spaces.none (BodyRest.empty t) a
body_of_tag name text e false rest t a = SpacedBody.spaced Spaces.none (BodyRest.full t a.2 (subst (λ n. EndTag n a.0 a.1) e a.3)) a.4

pub from_body_word : (count : ℕ) (kind : Kind) (elements : List (List ℕ)) (name : List ℕ) (seen : List (List ℕ)) (b : ℕ) (text : List ℕ) → Known kind text → Goes kind (ctl (BodyWord count) elements name seen) b text (body_word_next count b) → At (BodyWord count) kind elements name seen (b ∷ text)
unfolding body_word_next body_letter done
from_body_word count kinds.Stanza elements name seen b text known h = tt
from_body_word zero kinds.Body elements name seen b text known h = λ e f. let o = only (b == 98) _ _ h in rw (eqb-true b 98 o.0) (known _ (leads _ o.1) e (grown b 98 f o.0))
from_body_word (suc zero) kinds.Body elements name seen b text known h = λ e f. let o = only (b == 111) _ _ h in rw (eqb-true b 111 o.0) (known _ (leads _ o.1) e (grown b 111 f o.0))
from_body_word (suc (suc zero)) kinds.Body elements name seen b text known h = λ e f. let o = only (b == 100) _ _ h in rw (eqb-true b 100 o.0) (known _ (leads _ o.1) e (grown b 100 f o.0))
from_body_word (suc (suc (suc zero))) kinds.Body elements name seen b text known h = λ e f. let o = only (b == 121) _ _ h in rw (eqb-true b 121 o.0) (known _ (leads _ o.1) e (grown b 121 f o.0))
from_body_word (suc (suc (suc (suc n)))) kinds.Body (inner ∷ outer) name seen b text known h = λ e. absurd (cc)
from_body_word (suc (suc (suc (suc n)))) kinds.Body [] name seen b text known h = λ e f.
    split (nat_lt (suc (suc (suc (suc n)))) 4) _ _ h
    (λ t _. absurd (omega (arith, ltb-true (suc (suc (suc (suc n)))) 4 t)))
    (λ _ g. let i = from_name_ended kinds.Body [] name seen _ b text known g in body_of_tag name (b ∷ text) f i.0 i.1 i.2 i.3)
