-- Where a run ends in a CDATA section or in a reference, and where it does not.
use Rattle.std.proofs.Common.{◌≡◌, ◌+◌, ◌<◌, ℕ, suc, zero, Bool, true, false, List, [], ◌∷◌, ◌++◌, refl, sym, ap, subst, arith, inl, inr}
use Rattle.std.specs.Prelude.{◌⊎◌, Some, codes, ◌==◌, if◌then◌else◌}
use Rattle.std.proofs.lemmas.Bool.{ne_eqb}
use Rattle.body_cutter.specs.declared.place.Kind.{Kind}
use Rattle.body_cutter.specs.Tables.{more_brackets, section_letter}
use Rattle.body_cutter.specs.Viable.{Without}
use Rattle.body_cutter.proofs.Control.{Control, advance}
use Rattle.body_cutter.proofs.CompletionTurns.{Phase, Before, Plain, AfterLess, Word, Section, Referring, Turn}
use Rattle.body_cutter.proofs.CompletionPhases.{Run, phase}

-- a piece in a text
pub without_more : (piece : List ℕ) {text : List ℕ} {x : ℕ} → Without piece text → ((back : List ℕ) → x ∷ text ≡ piece ++ back → ⊥) → Without piece (x ∷ text)
without_more piece w h [] back e = h back e
without_more piece w h (y ∷ front) back e = w front back (cc)

pub without_less : (piece : List ℕ) {text : List ℕ} {x : ℕ} → Without piece (x ∷ text) → Without piece text
without_less piece {x = x} w front back e = w (x ∷ front) back (ap (λ (xs : List ℕ). x ∷ xs) e)

-- a text after so many `]`, of which two are counted
abbrev pub after_brackets : ℕ → List ℕ → List ℕ
after_brackets zero text = text
after_brackets (suc zero) text = 93 ∷ text
after_brackets (suc (suc n)) text = 93 ∷ 93 ∷ text

abbrev pub end_mark : List ℕ
end_mark = codes "]]>"

abbrev pub NoEnd : ℕ → List ℕ → Type 0
NoEnd count text = Without end_mark (after_brackets count text)

no_end_rest : (count b : ℕ) (text : List ℕ) → NoEnd count (b ∷ text) → Without end_mark text
no_end_rest zero b text w = without_less end_mark w
no_end_rest (suc zero) b text w = without_less end_mark (without_less end_mark w)
no_end_rest (suc (suc n)) b text w = without_less end_mark (without_less end_mark (without_less end_mark w))

no_end_bracket : (count : ℕ) (text : List ℕ) → NoEnd count (93 ∷ text) → NoEnd (more_brackets count) text
unfolding more_brackets
no_end_bracket zero text w = w
no_end_bracket (suc zero) text w = w
no_end_bracket (suc (suc n)) text w = rw (ne_eqb (suc (suc n)) 0 (λ e. omega (arith, e))) (without_less end_mark w)

-- the first byte of a run
pub first : {kind : Kind} {c d : Control} {b : ℕ} {text : List ℕ} → Run kind c (b ∷ text) d → (next : Control) × (advance kind c b ≡ Some next) × Turn (phase c) b (phase next) × Run kind next text d
first (Run.go {next = next} e t r) = (next, e, t, r)

-- in a section a run stays without `]]>`
section_goes : (count b : ℕ) (text : List ℕ) (y : Phase) → Turn (Section count) b y → NoEnd count (b ∷ text) → (next : ℕ) × (y ≡ Section next) × NoEnd next text
section_goes count b text (Section next) (inl t) w =
    (next, refl, subst (λ (n : ℕ). NoEnd n text) (sym t.1) (no_end_bracket count text (subst (λ (x : ℕ). NoEnd count (x ∷ text)) t.0 w)))
section_goes count b text (Section next) (inr t) w = (next, refl, subst (λ (n : ℕ). NoEnd n text) (sym t.2) (no_end_rest count b text w))
section_goes count b text Plain t w =
    absurd (subst (λ (n : ℕ). NoEnd n (b ∷ text)) t.1 w [] text (ap (λ (x : ℕ). 93 ∷ 93 ∷ x ∷ text) t.0))
section_goes count b text _ t w = absurd t

stays_open : {kind : Kind} {c d : Control} {text : List ℕ} → Run kind c text d → (count : ℕ) → phase c ≡ Section count → NoEnd count text → (last : ℕ) × (phase d ≡ Section last)
stays_open Run.stop count e w = (count, e)
stays_open (Run.go {next = next} {b = b} {text = text} a t r) count e w =
    let k = section_goes count b text (phase next) (subst (λ (x : Phase). Turn x b (phase next)) e t) w in
    stays_open r k.0 k.1 k.2

-- `<![CDATA[` begins a section wherever it is read after the name of the body
pub letter_less : (count : ℕ) → 60 ≡ section_letter count → ⊥
unfolding section_letter
letter_less count e = by (count == 1) (count == 2) (count == 3) (count == 4) (count == 5) e
  where
    by : (s t u v w : Bool) → let n : ℕ = 60 in n ≡ (if s then 67 else if t then 68 else if u then 65 else if v then 84 else if w then 65 else 91) → ⊥
    by true t u v w e = omega (arith, e)
    by false true u v w e = omega (arith, e)
    by false false true v w e = omega (arith, e)
    by false false false true w e = omega (arith, e)
    by false false false false true e = omega (arith, e)
    by false false false false false e = omega (arith, e)

pub letter_and : (count : ℕ) → 38 ≡ section_letter count → ⊥
unfolding section_letter
letter_and count e = by (count == 1) (count == 2) (count == 3) (count == 4) (count == 5) e
  where
    by : (s t u v w : Bool) → let n : ℕ = 38 in n ≡ (if s then 67 else if t then 68 else if u then 65 else if v then 84 else if w then 65 else 91) → ⊥
    by true t u v w e = omega (arith, e)
    by false true u v w e = omega (arith, e)
    by false false true v w e = omega (arith, e)
    by false false false true w e = omega (arith, e)
    by false false false false true e = omega (arith, e)
    by false false false false false e = omega (arith, e)

true_false : {P : Type 0} → true ≡ false → P
true_false h = absurd (cc)

-- a `<`
abbrev Opens : Phase → Type 0
Opens y = (y ≡ AfterLess) ⊎ (y ≡ Section 0)

pub less_goes : (x y : Phase) → (x ≡ Before → ⊥) → Turn x 60 y → Opens y
less_goes Before y n t = absurd (n refl)
less_goes Plain AfterLess n t = inl refl
less_goes Plain Plain n t = true_false t.1
less_goes Plain Referring n t = absurd (omega (arith, t))
less_goes Plain _ n t = absurd t
less_goes AfterLess Plain n t = true_false t.0.1
less_goes AfterLess (Word count) n t = absurd (omega (arith, t.0))
less_goes AfterLess _ n t = absurd t
less_goes (Word count) (Word next) n t = absurd (letter_less count t.2)
less_goes (Word count) (Section next) n t = absurd (omega (arith, t.1))
less_goes (Word count) _ n t = absurd t
less_goes (Section count) (Section next) n (inl t) = absurd (omega (arith, t.0))
less_goes (Section count) (Section next) n (inr t) = inr (ap Section t.2)
less_goes (Section count) Plain n t = absurd (omega (arith, t.0))
less_goes (Section count) _ n t = absurd t
less_goes Referring Referring n t = true_false t.0.1
less_goes Referring Plain n t = absurd (omega (arith, t))
less_goes Referring _ n t = absurd t

-- half of the beginning of a section, or in one
abbrev Half : ℕ → Phase → Type 0
Half count y = (y ≡ Word count) ⊎ (y ≡ Section 0)

mark_goes : (x y : Phase) → Opens x → Turn x 33 y → Half 0 y
mark_goes x y (inl e) t = by y (subst (λ (z : Phase). Turn z 33 y) e t)
  where
    by : (y : Phase) → Turn AfterLess 33 y → Half 0 y
    by (Word count) t = inl (ap Word t.1)
    by Plain t = true_false t.1
    by _ t = absurd t
mark_goes x y (inr e) t = by y (subst (λ (z : Phase). Turn z 33 y) e t)
  where
    by : (y : Phase) → Turn (Section 0) 33 y → Half 0 y
    by (Section next) (inl t) = absurd (omega (arith, t.0))
    by (Section next) (inr t) = inr (ap Section t.2)
    by Plain t = absurd (omega (arith, t.0))
    by _ t = absurd t

in_section_goes : (b : ℕ) (y : Phase) → (b ≡ 93 → ⊥) → (b ≡ 62 → ⊥) → Turn (Section 0) b y → y ≡ Section 0
in_section_goes b (Section next) n m (inl t) = absurd (n t.0)
in_section_goes b (Section next) n m (inr t) = ap Section t.2
in_section_goes b Plain n m t = absurd (m t.0)
in_section_goes b _ n m t = absurd t

letter_goes : (count b : ℕ) (x y : Phase) → count < 6 → (b ≡ 93 → ⊥) → (b ≡ 62 → ⊥) → Half count x → Turn x b y → Half (count + 1) y
letter_goes count b x y l n m (inl e) t = by y (subst (λ (z : Phase). Turn z b y) e t)
  where
    by : (y : Phase) → Turn (Word count) b y → Half (count + 1) y
    by (Word next) t = inl (ap Word t.1)
    by (Section next) t = absurd (omega (arith, t.0, l))
    by _ t = absurd t
letter_goes count b x y l n m (inr e) t = inr (in_section_goes b y n m (subst (λ (z : Phase). Turn z b y) e t))

last_goes : (x y : Phase) → Half 6 x → Turn x 91 y → y ≡ Section 0
last_goes x y (inl e) t = by y (subst (λ (z : Phase). Turn z 91 y) e t)
  where
    by : (y : Phase) → Turn (Word 6) 91 y → y ≡ Section 0
    by (Word next) t = absurd (omega (arith, t.0))
    by (Section next) t = ap Section t.2
    by _ t = absurd t
last_goes x y (inr e) t = in_section_goes 91 y (λ h. omega (arith, h)) (λ h. omega (arith, h)) (subst (λ (z : Phase). Turn z 91 y) e t)

-- a run over the beginning of a section without its end ends in a section
pub ends_inside : {kind : Kind} {c d : Control} {inside : List ℕ} → (phase c ≡ Before → ⊥) → Without (codes "]]>") inside → Run kind c (codes "<![CDATA[" ++ inside) d → (last : ℕ) × (phase d ≡ Section last)
ends_inside {c = c} n w r =
    let r0 = first r in
    let r1 = first r0.3 in
    let r2 = first r1.3 in
    let r3 = first r2.3 in
    let r4 = first r3.3 in
    let r5 = first r4.3 in
    let r6 = first r5.3 in
    let r7 = first r6.3 in
    let r8 = first r7.3 in
    let h1 = mark_goes _ _ (less_goes (phase c) _ n r0.2) r1.2 in
    let h2 = letter_goes 0 91 _ _ (omega arith) (λ h. omega (arith, h)) (λ h. omega (arith, h)) h1 r2.2 in
    let h3 = letter_goes 1 67 _ _ (omega arith) (λ h. omega (arith, h)) (λ h. omega (arith, h)) h2 r3.2 in
    let h4 = letter_goes 2 68 _ _ (omega arith) (λ h. omega (arith, h)) (λ h. omega (arith, h)) h3 r4.2 in
    let h5 = letter_goes 3 65 _ _ (omega arith) (λ h. omega (arith, h)) (λ h. omega (arith, h)) h4 r5.2 in
    let h6 = letter_goes 4 84 _ _ (omega arith) (λ h. omega (arith, h)) (λ h. omega (arith, h)) h5 r6.2 in
    let h7 = letter_goes 5 65 _ _ (omega arith) (λ h. omega (arith, h)) (λ h. omega (arith, h)) h6 r7.2 in
    stays_open r8.3 0 (last_goes _ _ h7 r8.2) w
