-- Where a tag ends, and names.
use Rattle.std.proofs.Common.{◌≡◌, ◌∙◌, ◌+◌, ◌-◌, ◌<◌, ◌≤◌, ℕ, Bool, true, false, List, [], ◌∷◌, length, take, drop, refl, suc, zero, sym, ap, arith}
use Rattle.std.specs.Prelude.{Option, None, Some, ◌&&◌, nat_eq, if◌then◌else◌}
use Rattle.std.specs.List.{starts_with}
use lib.Pointwise.{pointwise}
use Rattle.std.proofs.lemmas.List.{length-take, take-take, drop-take}
use Rattle.body_cutter.specs.Viable.{ends_name}
use Rattle.body_cutter.proofs.Leads.{both}
use Rattle.xmpp_stream.specs.declared.stage.Mark.{Mark}
use Rattle.xmpp_stream.specs.declared.stage.Mark.TheVariants.{Element, Tag, Undecided}
use Rattle.xmpp_stream.specs.Stream.{is_named, mark_of, stream_mark, unnamed_mark}
use Rattle.xmpp_stream.specs.Tag.{IsTag, ends_tag, first_is, quote_after, tag_end}

some_same : {A : Type 0} {x y : A} → Some x ≡ Some y → x ≡ y
some_same h = cc

above_by : (at m : ℕ) (later : Option ℕ) (ends : Bool) → (later ≡ Some m → at + 1 < m) → (if ends then Some (at + 1) else later) ≡ Some m → at < m
above_by at m later true k h = let e : at + 1 ≡ m = some_same h in omega arith
above_by at m later false k h = let e : at + 1 < m = k h in omega arith

-- a tag has some bytes
above : (text : List ℕ) (at m : ℕ) (quote : Option ℕ) → tag_end at quote text ≡ Some m → at < m
unfolding tag_end
above [] at m quote h = absurd (cc)
above (b ∷ text) at m quote h = above_by at m (tag_end (at + 1) (quote_after quote b) text) (ends_tag quote b) (above text (at + 1) m (quote_after quote b)) h

alone_by : (at n : ℕ) (ends : Bool) (later shorter : Option ℕ) → (later ≡ Some (at + 1 + n) → shorter ≡ Some (at + 1 + n)) →
    (if ends then Some (at + 1) else later) ≡ Some (at + suc n) → (if ends then Some (at + 1) else shorter) ≡ Some (at + suc n)
alone_by at n true later shorter k h = h
alone_by at n false later shorter k h =
    let e : at + suc n ≡ at + 1 + n = omega arith in
    k (h ∙ ap Some e) ∙ ap Some (sym e)

-- the bytes up to a tag's end are one tag
alone : (text : List ℕ) (n at : ℕ) (quote : Option ℕ) → tag_end at quote text ≡ Some (at + n) → tag_end at quote (take n text) ≡ Some (at + n)
unfolding tag_end
alone [] n at quote h = absurd (cc)
alone (b ∷ text) zero at quote h = let k : at < at + 0 = above (b ∷ text) at (at + 0) quote h in absurd (omega arith)
alone (b ∷ text) (suc n) at quote h =
    alone_by at n (ends_tag quote b) (tag_end (at + 1) (quote_after quote b) text) (tag_end (at + 1) (quote_after quote b) (take n text))
    (alone text n (at + 1) (quote_after quote b)) h

pub whole_tag : (text : List ℕ) (count : ℕ) → tag_end 0 None text ≡ Some count → count ≤ length text → IsTag (take count text)
whole_tag text count h within =
    let e : count ≡ 0 + count = omega arith in
    let l : count ≡ length (take count text) = omega (arith, length-take count text, within) in
    alone text count 0 None (h ∙ ap Some e) ∙ ap Some (sym e ∙ l)

-- a name that ends in a front of a text

first_front : (test : ℕ → Bool) (n : ℕ) (text : List ℕ) → first_is test (take n text) ≡ true → first_is test text ≡ true
first_front test zero text h = absurd (cc)
first_front test (suc n) [] h = absurd (cc)
first_front test (suc n) (b ∷ text) h = h

first_within : (test : ℕ → Bool) (k : ℕ) (text : List ℕ) → first_is test (drop k text) ≡ true → k < length text
first_within test zero [] h = absurd (cc)
first_within test (suc k) [] h = absurd (cc)
first_within test zero (b ∷ text) h = omega arith
first_within test (suc k) (b ∷ text) h = let e : k < length text = first_within test k text h in omega arith

join : {a b : Bool} → a ≡ true → b ≡ true → (a && b) ≡ true
join p q = rw (p, q) refl

named_front : (mark text : List ℕ) (n : ℕ) → is_named mark (take n text) ≡ true → is_named mark text ≡ true
named_front mark text n h =
    let k = both (starts_with nat_eq (take n text) mark) (first_is ends_name (drop (length mark) (take n text))) h in
    let long : length mark < length (take n text) = first_within ends_name (length mark) (take n text) k.1 in
    let below : length mark ≤ n = omega (arith, length-take n text, long) in
    let same : n ≡ length mark + (n - length mark) = omega arith in
    let front : starts_with nat_eq text mark ≡ true = ap (pointwise nat_eq mark) (sym (take-take (length mark) n text below)) ∙ k.0 in
    let name : first_is ends_name (take (n - length mark) (drop (length mark) text)) ≡ true =
    ap (first_is ends_name) (sym (drop-take (length mark) (n - length mark) text)) ∙ ap (λ (i : ℕ). first_is ends_name (drop (length mark) (take i text))) (sym same) ∙ k.1 in
    join front (first_front ends_name (n - length mark) (drop (length mark) text) name)

named_by : (a n : Bool) (u : Mark) → (if a then Undecided else if n then Tag else u) ≡ Element → n ≡ false
named_by true n u h = absurd (cc)
named_by false true u h = absurd (cc)
named_by false false u h = refl

other_name : (b : Bool) → (b ≡ true → ⊥) → b ≡ false
other_name true h = absurd (h refl)
other_name false h = refl

true_false : {b : Bool} → b ≡ true → b ≡ false → ⊥
true_false h k = absurd (cc)

-- no front of what is marked as an element has the stream's name
pub element_named : (text : List ℕ) (n : ℕ) → mark_of text ≡ Element → is_named stream_mark (take n text) ≡ false
unfolding mark_of
element_named text n h =
    let other = named_by (starts_with nat_eq stream_mark text) (is_named stream_mark text) (unnamed_mark text) h in
    other_name (is_named stream_mark (take n text)) (λ k. true_false (named_front stream_mark text n k) other)
