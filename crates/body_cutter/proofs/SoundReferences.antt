-- What completes a reference, from what completes it after one byte more.
use Rattle.std.proofs.Common.{◌≡◌, ℕ, ◌+◌, ◌-◌, ◌*◌, Bool, true, false, List, ◌∷◌, refl, sym, ap, subst, zero-add}
use Rattle.std.specs.Prelude.{Option, None, Some, if◌then◌else◌, nat_le, ◌==◌, ◌&&◌}
use Rattle.std.proofs.lemmas.Bool.{eqb-true}
use Rattle.body_cutter.specs.declared.place.Place.{Place}
use Rattle.body_cutter.specs.declared.place.Reference.{Reference}
use Rattle.body_cutter.specs.declared.place.Reference.TheVariants.{Begun, L, G, A, Am, Ap, Apo, Q, Qu, Quo, Named, Number, Decimal, HexMark, Hex}
use Rattle.body_cutter.specs.declared.place.ReferenceMove.{ReferenceMove}
use Rattle.body_cutter.specs.declared.place.ReferenceMove.TheVariants.{More, Done}
use Rattle.body_cutter.specs.declared.place.Kind.{Kind}
use Rattle.body_cutter.specs.Chars.{is_allowed, is_digit}
use Rattle.body_cutter.specs.References.{letter, begun_next, letter_a_next, done_if, done_number, decimal_more, hex_more, hex_digit, decimal_next, hex_grown, hex_next, number_next, decimal_or_end, hex_or_end, reference_next}
use Rattle.body_cutter.specs.Reader.{reference_moved}
use Rattle.body_cutter.specs.Grammar.{Digits, HexDigits, ReferenceRest}
use Rattle.body_cutter.proofs.Control.{Control, done}
use Rattle.body_cutter.proofs.Completes.{At, RefRest}
use Rattle.body_cutter.proofs.Leads.{Goes, Known, dead, leads}

abbrev pub in_reference : Place → Reference → List (List ℕ) → List ℕ → List (List ℕ) → Control
in_reference place reference elements name seen = record { place = place; reference = Some reference; elements = elements; name = name; seen = seen }

module _ (kind : Kind) (place : Place) (from : Reference) (elements : List (List ℕ)) (name : List ℕ) (seen : List (List ℕ)) (b : ℕ) (text : List ℕ) (known : Known kind text) where
  -- this move of the reference leads on
  pub record Refers (o : Option ReferenceMove) : Type 0 where
    pub goes : Goes kind (in_reference place from elements name seen) b text (reference_moved place o)

  -- what completes the state after this reference
  abbrev pub After : (List ℕ → Type 0) → Type 0
  After P = (after : List ℕ) × P after × At place kind elements name seen after

  split : {P : Type 0} (t : Bool) (x y : Option ReferenceMove) → Refers (if t then x else y) → (t ≡ true → Refers x → P) → (t ≡ false → Refers y → P) → P
  split true x y h f g = f refl h
  split false x y h f g = g refl h

  none : {P : Type 0} → Refers None → P
  none h = absurd (dead h.goes)

  only : {P : Type 0} (t : Bool) (x : Option ReferenceMove) → Refers (if t then x else None) → (t ≡ true → Refers x → P) → P
  only true x h f = f refl h
  only false x h f = none h

  more : (reference : Reference) → Refers (Some (More reference)) → After (RefRest reference text)
  unfolding done
  more reference h = known _ (leads _ h.goes)

  over : (character : ℕ) → Refers (Some (Done character)) → At place kind elements name seen text
  unfolding done
  over character h = known _ (leads _ h.goes)

  one : (n : ℕ) (reference : Reference) (P : List ℕ → Type 0) → Refers (letter b n reference) → ((b == n) ≡ true → (after : List ℕ) → RefRest reference text after → P after) → After P
  unfolding letter
  one n reference P h f = only (b == n) _ h (λ t g. let k = more reference g in (k.0, f t k.0 k.1, k.2))

  -- one decimal digit more
  decimal_step : (value : ℕ) (P : List ℕ → Type 0) → Refers (decimal_next value b) → (is_digit b ≡ true → (after : List ℕ) → Digits (value * 10 + (b - 48)) text after → P after) → After P
  unfolding decimal_next decimal_more is_digit
  decimal_step value P h f =
      only (nat_le 48 b && nat_le b 57) _ h (λ d g.
      only (nat_le (value * 10 + (b - 48)) 0x10ffff) _ g (λ _ g. let k = more (Decimal (value * 10 + (b - 48))) g in (k.0, f d k.0 k.1, k.2)))

  hex_some : (value : ℕ) (P : List ℕ → Type 0) (o : Option ℕ) → hex_digit b ≡ o → Refers (hex_grown value o) → ((digit : ℕ) → hex_digit b ≡ Some digit → (after : List ℕ) → HexDigits (value * 16 + digit) text after → P after) → After P
  unfolding hex_more
  hex_some value P None e h f = none h
  hex_some value P (Some digit) e h f =
      only (nat_le (value * 16 + digit) 0x10ffff) _ h (λ _ g. let k = more (Hex (value * 16 + digit)) g in (k.0, f digit e k.0 k.1, k.2))

  -- one hexadecimal digit more
  hex_step : (value : ℕ) (P : List ℕ → Type 0) → Refers (hex_next value b) → ((digit : ℕ) → hex_digit b ≡ Some digit → (after : List ℕ) → HexDigits (value * 16 + digit) text after → P after) → After P
  unfolding hex_next
  hex_step value P h f = hex_some value P (hex_digit b) refl h f

  from_number : Refers (number_next b) → After (RefRest Number (b ∷ text))
  unfolding number_next
  from_number h =
      split (b == 120) _ _ h
      (λ t g. let k = more HexMark g in (k.0, subst (λ (x : ℕ). ReferenceRest (35 ∷ x ∷ text) k.0) (sym (eqb-true b 120 t)) k.1, k.2))
      (λ _ g. decimal_step 0 (RefRest Number (b ∷ text)) g (λ d after k. ReferenceRest.decimal d (subst (λ (n : ℕ). Digits n text after) (zero-add (b - 48)) k)))

  from_decimal : (value : ℕ) → Refers (decimal_or_end value b) → After (RefRest (Decimal value) (b ∷ text))
  unfolding decimal_or_end done_number
  from_decimal value h =
      split (b == 59) _ _ h
      (λ t g. only (is_allowed value) _ g (λ a g. (text, subst (λ (x : ℕ). Digits value (x ∷ text) text) (sym (eqb-true b 59 t)) (Digits.ends a), over value g)))
      (λ _ g. decimal_step value (RefRest (Decimal value) (b ∷ text)) g (λ d after k. Digits.more d k))

  from_hex : (value : ℕ) → Refers (hex_or_end value b) → After (RefRest (Hex value) (b ∷ text))
  unfolding hex_or_end done_number
  from_hex value h =
      split (b == 59) _ _ h
      (λ t g. only (is_allowed value) _ g (λ a g. (text, subst (λ (x : ℕ). HexDigits value (x ∷ text) text) (sym (eqb-true b 59 t)) (HexDigits.ends a), over value g)))
      (λ _ g. hex_step value (RefRest (Hex value) (b ∷ text)) g (λ digit d after k. HexDigits.more d k))

  from_begun : Refers (begun_next b) → After (ReferenceRest (b ∷ text))
  unfolding begun_next
  from_begun h =
      split (b == 35) _ _ h (λ t g. starts 35 Number t (more Number g))
      (λ _ g. split (b == 108) _ _ g (λ t g. starts 108 L t (more L g))
      (λ _ g. split (b == 103) _ _ g (λ t g. starts 103 G t (more G g))
      (λ _ g. split (b == 97) _ _ g (λ t g. starts 97 A t (more A g))
      (λ _ g. only (b == 113) _ g (λ t g. starts 113 Q t (more Q g))))))
    where
      starts : (n : ℕ) (reference : Reference) → (b == n) ≡ true → After (ReferenceRest (n ∷ text)) → After (ReferenceRest (b ∷ text))
      starts n reference t k = (k.0, subst (λ (x : ℕ). ReferenceRest (x ∷ text) k.0) (sym (eqb-true b n t)) k.1, k.2)

  from_a : Refers (letter_a_next b) → After (ReferenceRest (97 ∷ b ∷ text))
  unfolding letter_a_next
  from_a h =
      split (b == 109) _ _ h (λ t g. goes_on 109 t (more Am g))
      (λ _ g. only (b == 112) _ g (λ t g. goes_on 112 t (more Ap g)))
    where
      goes_on : (n : ℕ) → (b == n) ≡ true → After (ReferenceRest (97 ∷ n ∷ text)) → After (ReferenceRest (97 ∷ b ∷ text))
      goes_on n t k = (k.0, subst (λ (x : ℕ). ReferenceRest (97 ∷ x ∷ text) k.0) (sym (eqb-true b n t)) k.1, k.2)

  pub from_reference : (reference : Reference) → Refers (reference_next reference b) → After (RefRest reference (b ∷ text))
  unfolding reference_next done_if
  from_reference Begun h = from_begun h
  from_reference L h = one 116 (Named 60) (RefRest L (b ∷ text)) h (λ t after e. rw (eqb-true b 116 t, e) ReferenceRest.lt)
  from_reference G h = one 116 (Named 62) (RefRest G (b ∷ text)) h (λ t after e. rw (eqb-true b 116 t, e) ReferenceRest.gt)
  from_reference A h = from_a h
  from_reference Am h = one 112 (Named 38) (RefRest Am (b ∷ text)) h (λ t after e. rw (eqb-true b 112 t, e) ReferenceRest.amp)
  from_reference Ap h = one 111 Apo (RefRest Ap (b ∷ text)) h (λ t after r. rw (eqb-true b 111 t) r)
  from_reference Apo h = one 115 (Named 39) (RefRest Apo (b ∷ text)) h (λ t after e. rw (eqb-true b 115 t, e) ReferenceRest.apos)
  from_reference Q h = one 117 Qu (RefRest Q (b ∷ text)) h (λ t after r. rw (eqb-true b 117 t) r)
  from_reference Qu h = one 111 Quo (RefRest Qu (b ∷ text)) h (λ t after r. rw (eqb-true b 111 t) r)
  from_reference Quo h = one 116 (Named 34) (RefRest Quo (b ∷ text)) h (λ t after e. rw (eqb-true b 116 t, e) ReferenceRest.quot)
  from_reference (Named value) h = only (b == 59) _ h (λ t g. (text, ap (λ (x : ℕ). x ∷ text) (eqb-true b 59 t), over value g))
  from_reference Number h = from_number h
  from_reference (Decimal value) h = from_decimal value h
  from_reference HexMark h = hex_step 0 (RefRest HexMark (b ∷ text)) h (λ digit d after k. ReferenceRest.hex d (subst (λ (n : ℕ). HexDigits n text after) (zero-add digit) k))
  from_reference (Hex value) h = from_hex value h
