-- A form of the grammar is made of bytes of its own, and stays what it is whatever follows them.
use Rattle.std.proofs.Common.{◌≡◌, ◌∙◌, ◌+◌, ℕ, Bool, true, false, List, [], ◌∷◌, ◌++◌, refl, sym, ap, subst, append_assoc}
use Rattle.body_cutter.specs.Grammar.{Spaces, NameRest, Name, Exactly, Digits, HexDigits, ReferenceRest, Value, TagRest, Section, EndTag, ends_section}
use Rattle.body_cutter.specs.Parts.{count_of}

-- the bytes of a form: before any other text they are one too
pub record Front (X : List ℕ → List ℕ → Type 0) (text rest : List ℕ) : Type 0 where
  pub onto : List ℕ → List ℕ
  pub bytes : List ℕ
  pub joined : (other : List ℕ) → onto other ≡ bytes ++ other
  pub here : text ≡ onto rest
  pub stays : (other : List ℕ) → X (onto other) other

-- no bytes
pub at_once : {X : List ℕ → List ℕ → Type 0} {rest : List ℕ} → ((other : List ℕ) → X other other) → Front X rest rest
at_once stays = record { onto = λ o. o; bytes = []; joined = λ o. refl; here = refl; stays = stays }

-- one byte more
unfoldable pub before : {X Y : List ℕ → List ℕ → Type 0} (b : ℕ) {text rest : List ℕ} → ((t r : List ℕ) → X t r → Y (b ∷ t) r) → Front X text rest → Front Y (b ∷ text) rest
before b more k = record {
  onto = λ o. b ∷ k.onto o;
  bytes = b ∷ k.bytes;
  joined = λ o. ap (λ (t : List ℕ). b ∷ t) (k.joined o);
  here = ap (λ (t : List ℕ). b ∷ t) k.here;
  stays = λ o. more (k.onto o) o (k.stays o);
}

-- one form after the other
unfoldable pub in_turn : {X Y Z : List ℕ → List ℕ → Type 0} {text after rest : List ℕ} → ((t a r : List ℕ) → X t a → Y a r → Z t r) → Front X text after → Front Y after rest → Front Z text rest
in_turn both j k = record {
  onto = λ o. j.onto (k.onto o);
  bytes = j.bytes ++ k.bytes;
  joined = λ o. j.joined (k.onto o) ∙ ap (λ (t : List ℕ). j.bytes ++ t) (k.joined o) ∙ sym (append_assoc j.bytes k.bytes o);
  here = j.here ∙ ap j.onto k.here;
  stays = λ o. both (j.onto (k.onto o)) (k.onto o) o (j.stays (k.onto o)) (k.stays o);
}

pub spaces_front : {text rest : List ℕ} → Spaces text rest → Front Spaces text rest
spaces_front Spaces.none = at_once (λ o. Spaces.none)
spaces_front (Spaces.more {b = b} e s) = before b (λ t r k. Spaces.more e k) (spaces_front s)

name_rest_front : {name text rest : List ℕ} → NameRest name text rest → Front (NameRest name) text rest
name_rest_front NameRest.none = at_once (λ o. NameRest.none)
name_rest_front (NameRest.more {b = b} e n) = before b (λ t r k. NameRest.more e k) (name_rest_front n)

pub name_front : {name text rest : List ℕ} → Name name text rest → Front (Name name) text rest
name_front (Name.begins {b = b} e n) = before b (λ t r k. Name.begins e k) (name_rest_front n)

exactly_front : {bytes text rest : List ℕ} → Exactly bytes text rest → Front (Exactly bytes) text rest
exactly_front Exactly.none = at_once (λ o. Exactly.none)
exactly_front (Exactly.more {b = b} x) = before b (λ t r k. Exactly.more k) (exactly_front x)

-- these very bytes
abbrev pub Same : List ℕ → List ℕ → Type 0
Same text rest = text ≡ rest

pub here : {rest : List ℕ} → Front Same rest rest
here = at_once (λ o. refl)

digits_front : {value : ℕ} {text rest : List ℕ} → Digits value text rest → Front (Digits value) text rest
digits_front {value} (Digits.ends a) = before 59 (λ t r e. rw e (Digits.ends a)) here
digits_front (Digits.more {b = b} e d) = before b (λ t r k. Digits.more e k) (digits_front d)

hex_front : {value : ℕ} {text rest : List ℕ} → HexDigits value text rest → Front (HexDigits value) text rest
hex_front {value} (HexDigits.ends a) = before 59 (λ t r e. rw e (HexDigits.ends a)) here
hex_front (HexDigits.more {b = b} e d) = before b (λ t r k. HexDigits.more e k) (hex_front d)

-- bytes that are one form whatever follows them
these : {X : List ℕ → List ℕ → Type 0} {rest : List ℕ} (bytes : List ℕ) → ((other : List ℕ) → X (bytes ++ other) other) → Front X (bytes ++ rest) rest
these bytes stays = record { onto = λ o. bytes ++ o; bytes = bytes; joined = λ o. refl; here = refl; stays = stays }

-- one byte more, of the same form
pub with_byte : {X : List ℕ → List ℕ → Type 0} (b : ℕ) {text rest : List ℕ} → Front (λ t r. X (b ∷ t) r) text rest → Front X (b ∷ text) rest
with_byte b k = before b (λ t r x. x) k

pub reference_front : {text rest : List ℕ} → ReferenceRest text rest → Front ReferenceRest text rest
reference_front ReferenceRest.lt = these (108 ∷ 116 ∷ 59 ∷ []) (λ o. ReferenceRest.lt)
reference_front ReferenceRest.gt = these (103 ∷ 116 ∷ 59 ∷ []) (λ o. ReferenceRest.gt)
reference_front ReferenceRest.amp = these (97 ∷ 109 ∷ 112 ∷ 59 ∷ []) (λ o. ReferenceRest.amp)
reference_front ReferenceRest.apos = these (97 ∷ 112 ∷ 111 ∷ 115 ∷ 59 ∷ []) (λ o. ReferenceRest.apos)
reference_front ReferenceRest.quot = these (113 ∷ 117 ∷ 111 ∷ 116 ∷ 59 ∷ []) (λ o. ReferenceRest.quot)
reference_front (ReferenceRest.decimal {b = b} e d) = with_byte 35 (before {Y = λ t r. ReferenceRest (35 ∷ t) r} b (λ t r k. ReferenceRest.decimal e k) (digits_front d))
reference_front (ReferenceRest.hex {b = b} e d) = with_byte 35 (with_byte {X = λ t r. ReferenceRest (35 ∷ t) r} 120 (before {Y = λ t r. ReferenceRest (35 ∷ 120 ∷ t) r} b (λ t r k. ReferenceRest.hex e k) (hex_front d)))

pub value_front : {quote : ℕ} {text rest : List ℕ} → Value quote text rest → Front (Value quote) text rest
value_front {quote} Value.ends = these (quote ∷ []) (λ o. Value.ends)
value_front (Value.char {b = b} e v) = before b (λ t r k. Value.char e k) (value_front v)
value_front {quote} (Value.reference r v) = with_byte 38 (in_turn {Z = λ t r. Value quote (38 ∷ t) r} (λ t a r j k. Value.reference j k) (reference_front r) (value_front v))

-- a tag's rest with so many attributes
pub record TagOf (seen : List (List ℕ)) (spaced is_empty : Bool) (count : ℕ) (text rest : List ℕ) : Type 0 where
  pub tag : TagRest seen spaced is_empty text rest
  pub counts : count_of tag ≡ count

-- after the name of an attribute, after its `=`, and after the first quote
abbrev NamedTo : ℕ → List ℕ → List ℕ → Type 0
NamedTo quote text rest = (after_equals value : List ℕ) × Spaces text (61 ∷ after_equals) × Spaces after_equals (quote ∷ value) × Value quote value rest

abbrev QuotedTo : ℕ → List ℕ → List ℕ → Type 0
QuotedTo quote text rest = (value : List ℕ) × Spaces text (quote ∷ value) × Value quote value rest

quoted_front : {quote : ℕ} {text value rest : List ℕ} → Spaces text (quote ∷ value) → Value quote value rest → Front (QuotedTo quote) text rest
quoted_front {quote} s v =
    in_turn (λ t a r j k. (k.0, rw (sym k.1) j, k.2)) (spaces_front s)
    (before {Y = λ a r. (value : List ℕ) × (a ≡ quote ∷ value) × Value quote value r} quote (λ t r k. (t, refl, k)) (value_front v))

pub named_front : {quote : ℕ} {text after_equals value rest : List ℕ} → Spaces text (61 ∷ after_equals) → Spaces after_equals (quote ∷ value) → Value quote value rest → Front (NamedTo quote) text rest
named_front {quote} s u v =
    in_turn (λ t a r j k. (k.0, k.2, rw (sym k.1) j, k.3, k.4)) (spaces_front s)
    (before {Y = λ a r. (after_equals : List ℕ) × (a ≡ 61 ∷ after_equals) × (value : List ℕ) × Spaces after_equals (quote ∷ value) × Value quote value r} 61 (λ t r k. (t, refl, k.0, k.1, k.2)) (quoted_front u v))

pub tag_front : {seen : List (List ℕ)} {spaced is_empty : Bool} {text rest : List ℕ} (t : TagRest seen spaced is_empty text rest) → Front (TagOf seen spaced is_empty (count_of t)) text rest
unfolding count_of
tag_front TagRest.empty = these (47 ∷ 62 ∷ []) (λ o. record { tag = TagRest.empty; counts = refl })
tag_front TagRest.opens = these (62 ∷ []) (λ o. record { tag = TagRest.opens; counts = refl })
tag_front (TagRest.space {b = b} e t) = before b (λ t r k. record { tag = TagRest.space e k.tag; counts = k.counts }) (tag_front t)
tag_front {seen} {is_empty = is_empty} (TagRest.attribute {name = name} n fresh s u q v t) =
    in_turn (λ t a r j k. k t j) (name_front n)
    (in_turn {Z = λ a r. (text : List ℕ) → Name name text a → TagOf seen true is_empty (count_of t + 1) text r}
    (λ t a r j k text named. record { tag = TagRest.attribute named fresh j.2 j.3 q j.4 k.tag; counts = ap (λ (c : ℕ). c + 1) k.counts }) (named_front s u v) (tag_front t))

-- a text of two bytes or more
abbrev pub HasTwo : List ℕ → Type 0
HasTwo [] = ⊥
HasTwo (a ∷ []) = ⊥
HasTwo (a ∷ b ∷ text) = Unit {0}

-- two bytes say whether a section ends
same_end : (b : ℕ) (bytes rest other : List ℕ) → HasTwo bytes → ends_section (b ∷ (bytes ++ rest)) ≡ ends_section (b ∷ (bytes ++ other))
same_end b [] rest other h = absurd h
same_end b (x ∷ []) rest other h = absurd h
same_end b (x ∷ y ∷ bytes) rest other h = refl

pub two_more : (b : ℕ) (bytes : List ℕ) → HasTwo bytes → HasTwo (b ∷ bytes)
two_more b [] h = absurd h
two_more b (x ∷ []) h = absurd h
two_more b (x ∷ y ∷ bytes) h = tt

-- a form of two bytes or more
pub record LongFront (X : List ℕ → List ℕ → Type 0) (text rest : List ℕ) : Type 0 where
  pub front : Front X text rest
  pub long : HasTwo front.bytes

-- a byte that no end of a section begins with, whatever follows the form after it
pub still_open : {X : List ℕ → List ℕ → Type 0} {text rest : List ℕ} (b : ℕ) (k : LongFront X text rest) (other : List ℕ) → ends_section (b ∷ text) ≡ false → ends_section (b ∷ k.front.onto other) ≡ false
still_open {rest = rest} b k other e =
    ap (λ (t : List ℕ). ends_section (b ∷ t)) (k.front.joined other)
    ∙ same_end b k.front.bytes other rest k.long
    ∙ ap (λ (t : List ℕ). ends_section (b ∷ t)) (sym (k.front.joined rest))
    ∙ ap (λ (t : List ℕ). ends_section (b ∷ t)) (sym k.front.here)
    ∙ e

pub section_front : {text rest : List ℕ} → Section text rest → LongFront Section text rest
unfolding these
section_front Section.ends = record { front = these (93 ∷ 93 ∷ 62 ∷ []) (λ o. Section.ends); long = tt }
section_front (Section.char {b = b} c e s) =
    let k = section_front s in
    record {
      front = record {
        onto = λ o. b ∷ k.front.onto o;
        bytes = b ∷ k.front.bytes;
        joined = λ o. ap (λ (t : List ℕ). b ∷ t) (k.front.joined o);
        here = ap (λ (t : List ℕ). b ∷ t) k.front.here;
        stays = λ o. Section.char c (still_open b k o e) (k.front.stays o);
      };
      long = two_more b k.front.bytes k.long;
    }

pub end_tag_front : {name text rest : List ℕ} → EndTag name text rest → Front (EndTag name) text rest
end_tag_front {name} (EndTag.ends x s) =
    in_turn (λ t a r j k. EndTag.ends j k) (exactly_front x)
    (in_turn {Z = λ a r. Spaces a (62 ∷ r)} (λ t a r j k. subst (λ (x : List ℕ). Spaces t x) k j) (spaces_front s) (before {Y = λ a r. a ≡ 62 ∷ r} 62 (λ t r e. ap (λ (x : List ℕ). 62 ∷ x) e) here))
