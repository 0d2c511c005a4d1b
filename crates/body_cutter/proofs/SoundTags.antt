-- What completes a place in a start tag, from what completes the place after one byte more.
use Rattle.std.proofs.Common.{◌≡◌, ℕ, Bool, true, false, List, [], ◌∷◌, refl, sym, ap, subst, append_assoc, append-nil}
use Rattle.std.specs.Prelude.{None, ◌==◌, ◌&&◌, ◌||◌}
use Rattle.std.proofs.lemmas.Bool.{eqb-true}
use Rattle.body_cutter.specs.declared.place.Place.{Place}
use Rattle.body_cutter.specs.declared.place.Place.TheVariants.{TagName, TagSpace, TagSlash, AttrName, AttrEquals, AttrQuote, Value as InValue, AfterValue}
use Rattle.body_cutter.specs.declared.place.Move.{Move}
use Rattle.body_cutter.specs.declared.place.Act.TheVariants.{EndAttrName}
use Rattle.body_cutter.specs.declared.place.Kind.{Kind}
use Rattle.body_cutter.specs.declared.place.Kind.TheVariants as kinds
use Rattle.body_cutter.specs.Chars.{is_space, is_name_start, is_name_byte, is_char_byte, is_plain}
use Rattle.body_cutter.specs.Names.{has_name, with_name}
use Rattle.body_cutter.specs.Tables.{name_ended, tag_name_next, tag_space_next, tag_slash_next, attr_name_next, attr_equals_next, attr_quote_next, value_next, value_plain, after_value_next}
use Rattle.body_cutter.specs.Grammar.{Spaces, NameRest, Name, ReferenceRest, Value, TagRest, is_value_byte}
use Rattle.body_cutter.proofs.Control.{done}
use Rattle.body_cutter.proofs.Completes.{At, Ends, EndsAfter, InTag, Quoted}
use Rattle.body_cutter.proofs.Leads.{Goes, Known, ctl, split, only, dead, leads, gate}

-- between tags, after no `]`
pub ends_zero : (kind : Kind) (elements : List (List ℕ)) (text : List ℕ) → EndsAfter kind elements 0 text → Ends kind elements text
ends_zero kinds.Body [] text h = h
ends_zero kinds.Body (name ∷ []) text h = h
ends_zero kinds.Body (name ∷ outer ∷ others) text h = h
ends_zero kinds.Stanza [] text h = h
ends_zero kinds.Stanza (name ∷ others) text h = h

slash_end : {seen : List (List ℕ)} {spaced : Bool} (b : ℕ) (text rest : List ℕ) → (b == 47) ≡ true → text ≡ 62 ∷ rest → TagRest seen spaced true (b ∷ text) rest
slash_end b text rest t e = rw (eqb-true b 47 t, e) TagRest.empty

open_end : {seen : List (List ℕ)} {spaced : Bool} (b : ℕ) (text : List ℕ) → (b == 62) ≡ true → TagRest seen spaced false (b ∷ text) text
open_end b text t = rw (eqb-true b 62 t) TagRest.opens

value_reference : (quote b : ℕ) (text after rest : List ℕ) → (b == 38) ≡ true → ReferenceRest text after → Value quote after rest → Value quote (b ∷ text) rest
value_reference quote b text after rest t r v = rw (eqb-true b 38 t) (Value.reference r v)

value_end : (quote b : ℕ) (text : List ℕ) → (b == quote) ≡ true → Value quote (b ∷ text) text
value_end quote b text t = rw (eqb-true b quote t) Value.ends

pub from_name_ended : (kind : Kind) (elements : List (List ℕ)) (name : List ℕ) (seen : List (List ℕ)) (place : Place) (b : ℕ) (text : List ℕ) → Known kind text → Goes kind (ctl place elements name seen) b text (name_ended b) → InTag kind name elements [] false (b ∷ text)
unfolding name_ended done
from_name_ended kind elements name seen place b text known h =
    split (b == 47) _ _ h
    (λ t g. let k = known _ (leads _ g) in (true, k.0, slash_end b text k.0 t k.1, k.2))
    (λ _ g. split (b == 62) _ _ g
    (λ t g. (false, text, open_end b text t, ends_zero kind (name ∷ elements) text (known _ (leads _ g))))
    (λ _ g. let o = only (is_space b) _ _ g in let k = known _ (leads _ o.1) in (k.0, k.1, TagRest.space o.0 k.2, k.3)))

pub from_tag_name : (kind : Kind) (elements : List (List ℕ)) (name : List ℕ) (seen : List (List ℕ)) (b : ℕ) (text : List ℕ) → Known kind text → Goes kind (ctl TagName elements name seen) b text (tag_name_next b) → At TagName kind elements name seen (b ∷ text)
unfolding tag_name_next done
from_tag_name kind elements name seen b text known h =
    split (is_name_byte b) _ _ h
    (λ t g. let k = known _ (leads _ g) in
    (b ∷ k.0, k.1, NameRest.more t k.2, subst (λ n. InTag kind n elements [] false k.1) (append_assoc name (b ∷ []) k.0) k.3))
    (λ _ g. ([], b ∷ text, NameRest.none, subst (λ n. InTag kind n elements [] false (b ∷ text)) (sym (append-nil name)) (from_name_ended kind elements name seen TagName b text known g)))

pub from_after_value : (kind : Kind) (elements : List (List ℕ)) (name : List ℕ) (seen : List (List ℕ)) (b : ℕ) (text : List ℕ) → Known kind text → Goes kind (ctl AfterValue elements name seen) b text (after_value_next b) → At AfterValue kind elements name seen (b ∷ text)
unfolding after_value_next done
from_after_value kind [] name seen b text known h = tt
from_after_value kind (inner ∷ outer) name seen b text known h =
    split (b == 47) _ _ h
    (λ t g. let k = known _ (leads _ g) in (true, k.0, slash_end b text k.0 t k.1, k.2))
    (λ _ g. split (b == 62) _ _ g
    (λ t g. (false, text, open_end b text t, ends_zero kind (inner ∷ outer) text (known _ (leads _ g))))
    (λ _ g. let o = only (is_space b) _ _ g in let k = known _ (leads _ o.1) in (k.0, k.1, TagRest.space o.0 k.2, k.3)))

pub from_tag_space : (kind : Kind) (elements : List (List ℕ)) (name : List ℕ) (seen : List (List ℕ)) (b : ℕ) (text : List ℕ) → Known kind text → Goes kind (ctl TagSpace elements name seen) b text (tag_space_next b) → At TagSpace kind elements name seen (b ∷ text)
unfolding tag_space_next done
from_tag_space kind [] name seen b text known h = tt
from_tag_space kind (inner ∷ outer) name seen b text known h =
    split (b == 47) _ _ h
    (λ t g. let k = known _ (leads _ g) in (true, k.0, slash_end b text k.0 t k.1, k.2))
    (λ _ g. split (b == 62) _ _ g
    (λ t g. (false, text, open_end b text t, ends_zero kind (inner ∷ outer) text (known _ (leads _ g))))
    (λ _ g. split (is_space b) _ _ g
    (λ t g. let k = known _ (leads _ g) in (k.0, k.1, TagRest.space t k.2, k.3))
    (λ _ g. let o = only (is_name_start b) _ _ g in
    let k = known _ (leads _ o.1) in
    let q = k.6 in
    let i = q.6 in
    (i.0, i.1, TagRest.attribute (Name.begins o.0 k.3) k.4 k.5 q.3 q.4 q.5 i.2, i.3))))

pub from_tag_slash : (kind : Kind) (elements : List (List ℕ)) (name : List ℕ) (seen : List (List ℕ)) (b : ℕ) (text : List ℕ) → Known kind text → Goes kind (ctl TagSlash elements name seen) b text (tag_slash_next b) → At TagSlash kind elements name seen (b ∷ text)
unfolding tag_slash_next done
from_tag_slash kind [] name seen b text known h = tt
from_tag_slash kind (inner ∷ outer) name seen b text known h =
    let o = only (b == 62) _ _ h in
    (text, ap (λ x. x ∷ text) (eqb-true b 62 o.0), ends_zero kind outer text (known _ (leads _ o.1)))

pub byte_here : (b n : ℕ) (text : List ℕ) → (b == n) ≡ true → Spaces (b ∷ text) (n ∷ text)
byte_here b n text t = rw (eqb-true b n t) Spaces.none

equals_here : (b : ℕ) (text : List ℕ) → (b == 61) ≡ true → Spaces (b ∷ text) (61 ∷ text)
equals_here b text t = byte_here b 61 text t

attr_done : (kind : Kind) (inner : List ℕ) (outer : List (List ℕ)) (name : List ℕ) (seen : List (List ℕ)) (before after : List ℕ) → has_name seen name ≡ false → Spaces before (61 ∷ after) → Quoted kind inner outer (with_name seen name) after → At AttrName kind (inner ∷ outer) name seen before
attr_done kind inner outer name seen before after fresh s q = (
  [],
  before,
  after,
  NameRest.none,
  subst (λ n. has_name seen n ≡ false) (sym (append-nil name)) fresh,
  s,
  subst (λ n. Quoted kind inner outer (with_name seen n) after) (sym (append-nil name)) q,
)

abbrev named : Place → Move
named place = record { place = place; reference = None; act = EndAttrName }

pub from_attr_name : (kind : Kind) (elements : List (List ℕ)) (name : List ℕ) (seen : List (List ℕ)) (b : ℕ) (text : List ℕ) → Known kind text → Goes kind (ctl AttrName elements name seen) b text (attr_name_next b) → At AttrName kind elements name seen (b ∷ text)
unfolding attr_name_next done
from_attr_name kind [] name seen b text known h = tt
from_attr_name kind (inner ∷ outer) name seen b text known h =
    split (b == 61) _ _ h
    (λ t g. let o = gate (has_name seen name) kind (named AttrQuote) _ _ (leads _ g) in
    attr_done kind inner outer name seen (b ∷ text) text o.0 (equals_here b text t) (known _ o.1))
    (λ _ g. split (is_space b) _ _ g
    (λ t g. let o = gate (has_name seen name) kind (named AttrEquals) _ _ (leads _ g) in
    let k = known _ o.1 in
    attr_done kind inner outer name seen (b ∷ text) k.0 o.0 (Spaces.more t k.1) k.2)
    (λ _ g. let o = only (is_name_byte b) _ _ g in
    let k = known _ (leads _ o.1) in
    let e = append_assoc name (b ∷ []) k.0 in
    (b ∷ k.0, k.1, k.2, NameRest.more o.0 k.3, subst (λ n. has_name seen n ≡ false) e k.4, k.5, subst (λ n. Quoted kind inner outer (with_name seen n) k.2) e k.6)))

pub from_attr_equals : (kind : Kind) (elements : List (List ℕ)) (name : List ℕ) (seen : List (List ℕ)) (b : ℕ) (text : List ℕ) → Known kind text → Goes kind (ctl AttrEquals elements name seen) b text (attr_equals_next b) → At AttrEquals kind elements name seen (b ∷ text)
unfolding attr_equals_next done
from_attr_equals kind [] name seen b text known h = tt
from_attr_equals kind (inner ∷ outer) name seen b text known h =
    split (b == 61) _ _ h
    (λ t g. (text, equals_here b text t, known _ (leads _ g)))
    (λ _ g. let o = only (is_space b) _ _ g in let k = known _ (leads _ o.1) in (k.0, Spaces.more o.0 k.1, k.2))

pub from_attr_quote : (kind : Kind) (elements : List (List ℕ)) (name : List ℕ) (seen : List (List ℕ)) (b : ℕ) (text : List ℕ) → Known kind text → Goes kind (ctl AttrQuote elements name seen) b text (attr_quote_next b) → At AttrQuote kind elements name seen (b ∷ text)
unfolding attr_quote_next done
from_attr_quote kind [] name seen b text known h = tt
from_attr_quote kind (inner ∷ outer) name seen b text known h =
    split (b == 39) _ _ h
    (λ t g. let k = known _ (leads _ g) in (39, text, k.0, byte_here b 39 text t, refl, k.1, k.2))
    (λ _ g. split (b == 34) _ _ g
    (λ t g. let k = known _ (leads _ g) in (34, text, k.0, byte_here b 34 text t, refl, k.1, k.2))
    (λ _ g. let o = only (is_space b) _ _ g in let k = known _ (leads _ o.1) in (k.0, k.1, k.2, Spaces.more o.0 k.3, k.4, k.5, k.6)))

plain_byte : (b n : ℕ) → (b == n) ≡ true → is_char_byte n ≡ true → is_char_byte b ≡ true
plain_byte b n e c = rw (eqb-true b n e) c

either_byte : (b : ℕ) (t u : Bool) → (b == 10) ≡ t → (b == 9) ≡ u → (t || u) ≡ true → is_char_byte b ≡ true
unfolding is_char_byte is_plain
either_byte b true u e f h = rw (eqb-true b 10 e) refl
either_byte b false true e f h = rw (eqb-true b 9 f) refl
either_byte b false false e f h = absurd (cc)

both_byte : (b : ℕ) (t u : Bool) → (b == 10) ≡ t → (t && u) ≡ true → is_char_byte b ≡ true
unfolding is_char_byte is_plain
both_byte b true u e h = rw (eqb-true b 10 e) refl
both_byte b false u e h = absurd (cc)

value_byte : (quote b : ℕ) → is_char_byte b ≡ true → (b == quote) ≡ false → (b == 60) ≡ false → (b == 38) ≡ false → is_value_byte quote b ≡ true
value_byte quote b c q l a = rw (c, q, l, a) refl

from_value_plain : (quote : ℕ) (after_cr : Bool) (kind : Kind) (inner : List ℕ) (outer : List (List ℕ)) (name : List ℕ) (seen : List (List ℕ)) (b : ℕ) (text : List ℕ) → Known kind text → (b == quote) ≡ false → (b == 60) ≡ false → (b == 38) ≡ false → Goes kind (ctl (InValue quote after_cr) (inner ∷ outer) name seen) b text (value_plain quote after_cr b) → At (InValue quote after_cr) kind (inner ∷ outer) name seen (b ∷ text)
unfolding value_plain done is_char_byte is_plain
from_value_plain quote after_cr kind inner outer name seen b text known q l a h =
    split (b == 10 && after_cr) _ _ h
    (λ t g. let k = known _ (leads _ g) in (k.0, Value.char (value_byte quote b (both_byte b (b == 10) after_cr refl t) q l a) k.1, k.2))
    (λ _ g. split (b == 13) _ _ g
    (λ t g. let k = known _ (leads _ g) in (k.0, Value.char (value_byte quote b (plain_byte b 13 t refl) q l a) k.1, k.2))
    (λ _ g. split (b == 10 || b == 9) _ _ g
    (λ t g. let k = known _ (leads _ g) in (k.0, Value.char (value_byte quote b (either_byte b (b == 10) (b == 9) refl refl t) q l a) k.1, k.2))
    (λ _ g. let o = only (is_char_byte b) _ _ g in let k = known _ (leads _ o.1) in (k.0, Value.char (value_byte quote b o.0 q l a) k.1, k.2))))

pub from_value : (quote : ℕ) (after_cr : Bool) (kind : Kind) (elements : List (List ℕ)) (name : List ℕ) (seen : List (List ℕ)) (b : ℕ) (text : List ℕ) → Known kind text → Goes kind (ctl (InValue quote after_cr) elements name seen) b text (value_next quote after_cr b) → At (InValue quote after_cr) kind elements name seen (b ∷ text)
unfolding value_next done
from_value quote after_cr kind [] name seen b text known h = tt
from_value quote after_cr kind (inner ∷ outer) name seen b text known h =
    split (b == quote) _ _ h
    (λ t g. (text, value_end quote b text t, known _ (leads _ g)))
    (λ q g. split (b == 60) _ _ g
    (λ _ g. absurd (dead g))
    (λ l g. split (b == 38) _ _ g
    (λ t g. let k = known _ (leads _ g) in (k.2.0, value_reference quote b text k.0 k.2.0 t k.1 k.2.1, k.2.2))
    (λ a g. from_value_plain quote after_cr kind inner outer name seen b text known q l a g)))
