-- Attributes of the grammar are taken.
use Rattle.std.proofs.Common.{◌≡◌, ◌-◌, ℕ, Bool, true, false, ◌&&◌, ◌||◌, List, [], ◌∷◌, ◌++◌, length, refl, sym, subst, append_assoc, append-nil, inl, inr}
use Rattle.std.specs.Prelude.{◌⊎◌, ◌==◌, not, encode_utf8}
use Rattle.std.proofs.Math.Utf8.{encode}
use Rattle.std.proofs.lemmas.Bool.{eqb-true, eq-eqb}
use Rattle.body_cutter.specs.declared.parts.Span.{Span}
use Rattle.body_cutter.specs.declared.place.Place.TheVariants.{AttrName, AttrEquals, AttrQuote, Value as InValue, AfterValue}
use Rattle.body_cutter.specs.declared.place.Kind.{Kind}
use Rattle.body_cutter.specs.Chars.{is_space, is_name_byte, is_char_byte, grows_name_plainly, begins_name_plainly, is_letter, is_digit}
use Rattle.body_cutter.specs.Names.{around, has_name, with_name}
use Rattle.body_cutter.specs.Tables.{attr_name_next, attr_equals_next, attr_quote_next, value_next, value_plain}
use Rattle.body_cutter.specs.Reader.{place_next, move_of, next_move, acted, is_body_tag, with_name_grown, attr_named, with_attr_name}
use Rattle.body_cutter.specs.Grammar.{Spaces, NameRest, Value, is_quote}
use Rattle.body_cutter.specs.Parts.{character_of}
use Rattle.body_cutter.proofs.Leads.{both}
use Rattle.body_cutter.proofs.Flow.{Words, Kept, Taken, by_byte, proceed, st, words}
use Rattle.body_cutter.proofs.Folds.{grown, attributed, counted, by_way, value_kept}
use Rattle.body_cutter.proofs.Taken.{differs, byte_no_space, space_differs, spaces_taken, not_of, renamed, value_grown, attr_added}
use Rattle.body_cutter.proofs.TakenReferences.{reference_taken}

-- where the name of an attribute lies
abbrev pub name_span : Words → Span
name_span w = record { start = w.start; end = w.end }

module _ (len : ℕ) (kind : Kind) (elements : List (List ℕ)) (w : Words) (quote : ℕ) (no_amp : (38 == quote) ≡ false) (body : Bool) (tag : is_body_tag (around kind elements) ≡ body) (end : Kept) where
  -- what follows a value
  abbrev Onward : Kept → List ℕ → Type 0
  Onward k rest = Taken len (st kind AfterValue elements w (attributed body (name_span w) k)) rest end

  -- a raw byte of a value, where K is what the rest of the value keeps
  raw_taken : (k : Kept) (after_cr : Bool) (b : ℕ) {text rest : List ℕ} (t u v : Bool) → (b == 10 && after_cr) ≡ t → (b == 13) ≡ u → (b == 10 || b == 9) ≡ v →
      is_char_byte b ≡ true → (b == quote) ≡ false → (b == 60) ≡ false → (b == 38) ≡ false → (K : Bool → Kept → Kept) →
      ((after_cr : Bool) (k : Kept) → Onward (K after_cr k) rest → Taken len (st kind (InValue quote after_cr) elements w k) text end) →
      Onward (by_way t u v (K false k) (K true (grown body (32 ∷ []) k)) (K false (grown body (32 ∷ []) k)) (K false (grown body (b ∷ []) k))) rest →
      Taken len (st kind (InValue quote after_cr) elements w k) (b ∷ text) end
  unfolding proceed next_move acted move_of place_next value_next value_plain encode
  raw_taken k after_cr b true u v e f g c q l a K follow t = by_byte {next = st kind (InValue quote false) elements w k} (rw (q, l, a, e) refl) (follow false k t)
  raw_taken k after_cr b false true v e f g c q l a K follow t =
      by_byte {next = st kind (InValue quote true) elements w (grown body (32 ∷ []) k)}
      (rw (q, l, a, e, f, value_grown kind (InValue quote after_cr) _ elements w k body tag (encode_utf8 32)) refl) (follow true _ t)
  raw_taken k after_cr b false false true e f g c q l a K follow t =
      by_byte {next = st kind (InValue quote false) elements w (grown body (32 ∷ []) k)}
      (rw (q, l, a, e, f, g, value_grown kind (InValue quote after_cr) _ elements w k body tag (encode_utf8 32)) refl) (follow false _ t)
  raw_taken k after_cr b false false false e f g c q l a K follow t =
      by_byte {next = st kind (InValue quote false) elements w (grown body (b ∷ []) k)}
      (rw (q, l, a, e, f, g, c, value_grown kind (InValue quote after_cr) _ elements w k body tag (b ∷ [])) refl) (follow false _ t)

  value_taken : {text rest : List ℕ} (v : Value quote text rest) (after_cr : Bool) (k : Kept) → Onward (value_kept body v after_cr k) rest → Taken len (st kind (InValue quote after_cr) elements w k) text end
  unfolding proceed next_move acted move_of place_next value_next value_kept
  value_taken Value.ends after_cr k t =
      by_byte {next = st kind AfterValue elements w (attributed body (name_span w) k)} (rw (same quote, attr_added kind (InValue quote after_cr) _ elements w k body tag) refl) t
    where
      same : (n : ℕ) → (n == n) ≡ true
      same n = eq-eqb n n refl
  value_taken (Value.char {b = b} e v) after_cr k t =
      let x = both (is_char_byte b) _ e in
      let y = both (not (b == quote)) _ x.1 in
      let z = both (not (b == 60)) _ y.1 in
      raw_taken k after_cr b (b == 10 && after_cr) (b == 13) (b == 10 || b == 9) refl refl refl x.0 (not_of (b == quote) y.0) (not_of (b == 60) z.0) (not_of (b == 38) z.1)
      (λ a k. value_kept body v a k) (λ a k h. value_taken v a k h) t
  value_taken (Value.reference r v) after_cr k t =
      by_byte (rw no_amp refl) (reference_taken len kind (InValue quote false) elements w k body tag end r (value_taken v false (grown body (encode_utf8 (character_of r)) k) t))

quote_of : (quote : ℕ) (t u : Bool) → (quote == 39) ≡ t → (quote == 34) ≡ u → (t || u) ≡ true → (quote ≡ 39) ⊎ (quote ≡ 34)
quote_of quote true u e f h = inl (eqb-true quote 39 e)
quote_of quote false true e f h = inr (eqb-true quote 34 f)
quote_of quote false false e f h = absurd_of h
  where
    absurd_of : {P : Type 0} → false ≡ true → P
    absurd_of h = absurd (cc)

module _ (len : ℕ) (kind : Kind) (elements : List (List ℕ)) (w : Words) (k : Kept) (body : Bool) (tag : is_body_tag (around kind elements) ≡ body) (end : Kept) where
  -- what follows an attribute
  abbrev pub Valued : {quote : ℕ} {text rest : List ℕ} → Value quote text rest → Type 0
  Valued {rest = rest} v = Taken len (st kind AfterValue elements w (attributed body (name_span w) (value_kept body v false k))) rest end

  -- a value with its quotes
  quoted_here : (quote : ℕ) {value rest : List ℕ} → (quote ≡ 39) ⊎ (quote ≡ 34) → (v : Value quote value rest) → Valued v → Taken len (st kind AttrQuote elements w k) (quote ∷ value) end
  unfolding proceed next_move acted move_of place_next attr_quote_next
  quoted_here quote {value} {rest} (inl e) v t =
      subst (λ (q : ℕ). (v : Value q value rest) → Valued v → Taken len (st kind AttrQuote elements w k) (q ∷ value) end) (sym e) (λ v t. by_byte refl (value_taken len kind elements w 39 refl body tag end v false k t)) v t
  quoted_here quote {value} {rest} (inr e) v t =
      subst (λ (q : ℕ). (v : Value q value rest) → Valued v → Taken len (st kind AttrQuote elements w k) (q ∷ value) end) (sym e) (λ v t. by_byte refl (value_taken len kind elements w 34 refl body tag end v false k t)) v t

  quote_taken : {quote : ℕ} {text value rest : List ℕ} → Spaces text (quote ∷ value) → is_quote quote ≡ true → (v : Value quote value rest) → Valued v → Taken len (st kind AttrQuote elements w k) text end
  unfolding proceed next_move acted move_of place_next attr_quote_next is_space
  quote_taken {quote} s q v t =
      spaces_taken (λ at b e. rw (space_differs b 39 e refl, space_differs b 34 e refl, e) refl) s
      (quoted_here quote (quote_of quote (quote == 39) (quote == 34) refl refl q) v t)

  -- after the name of an attribute
  equals_taken : {text after : List ℕ} → Spaces text (61 ∷ after) → Taken len (st kind AttrQuote elements w k) after end → Taken len (st kind AttrEquals elements w k) text end
  unfolding proceed next_move acted move_of place_next attr_equals_next is_space
  equals_taken s t = spaces_taken (λ at b e. rw (space_differs b 61 e refl, e) refl) s (by_byte refl t)

module _ (len : ℕ) (kind : Kind) (elements : List (List ℕ)) (start : ℕ) (seen : List (List ℕ)) (k : Kept) (body : Bool) (tag : is_body_tag (around kind elements) ≡ body) (end : Kept) where
  -- the end of an attribute's name, which the tag doesn't have yet
  name_taken : (name : List ℕ) (stop : ℕ) {text after : List ℕ} → has_name seen name ≡ false → Spaces text (61 ∷ after) →
      Taken len (st kind AttrQuote elements (words [] start (len - length text) (with_name seen name)) (counted (with_name seen name) k)) after end → Taken len (st kind AttrName elements (words name start stop seen) k) text end
  unfolding proceed next_move acted move_of place_next attr_name_next attr_named with_attr_name is_space
  name_taken name stop {text} fresh Spaces.none t = by_byte {next = st kind AttrQuote elements (words [] start (len - length text) (with_name seen name)) (counted (with_name seen name) k)} (rw fresh refl) t
  name_taken name stop {text} fresh (Spaces.more {b = b} e s) t =
      by_byte {next = st kind AttrEquals elements (words [] start (len - length text) (with_name seen name)) (counted (with_name seen name) k)} (rw (space_differs b 61 e refl, e, fresh) refl) (equals_taken len kind elements _ _ body tag end s t)

  attr_name_taken : {more text rest : List ℕ} (name : List ℕ) (stop : ℕ) → NameRest more text rest → Taken len (st kind AttrName elements (words (name ++ more) start stop seen) k) rest end → Taken len (st kind AttrName elements (words name start stop seen) k) text end
  unfolding proceed next_move acted move_of place_next attr_name_next with_name_grown is_name_byte grows_name_plainly begins_name_plainly is_letter is_digit
  attr_name_taken name stop NameRest.none t = renamed (append-nil name) t
  attr_name_taken name stop (NameRest.more {b = b} {name = more} e n) t =
      by_byte {next = st kind AttrName elements (words (name ++ b ∷ []) start stop seen) k} (rw (differs is_name_byte b 61 e refl, byte_no_space b e, e) refl)
      (attr_name_taken (name ++ b ∷ []) stop n (renamed (sym (append_assoc name (b ∷ []) more)) t))

  -- an attribute after the first byte of its name
  pub attribute_taken : {b quote : ℕ} {name text before after value rest : List ℕ} (stop : ℕ) → NameRest name text before → has_name seen (b ∷ name) ≡ false → Spaces before (61 ∷ after) →
      Spaces after (quote ∷ value) → is_quote quote ≡ true → (v : Value quote value rest) →
      Taken len (st kind AfterValue elements (words [] start (len - length before) (with_name seen (b ∷ name))) (attributed body (record { start = start; end = len - length before }) (value_kept body v false (counted (with_name seen (b ∷ name)) k)))) rest end →
      Taken len (st kind AttrName elements (words (b ∷ []) start stop seen) k) text end
  attribute_taken {b} {name = name} {before = before} stop n fresh s u q v t =
      attr_name_taken (b ∷ []) stop n (name_taken (b ∷ name) stop fresh s (quote_taken len kind elements (words [] start (len - length before) (with_name seen (b ∷ name))) (counted (with_name seen (b ∷ name)) k) body tag end u q v t))
