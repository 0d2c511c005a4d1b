-- What a run that ends in a CDATA section, in a reference or after a `<` has read.
use Rattle.std.proofs.Common.{◌≡◌, ◌∙◌, ◌+◌, ◌<◌, ◌≤◌, ℕ, suc, zero, Bool, true, false, ◌&&◌, List, [], ◌∷◌, ◌++◌, length, drop, refl, sym, ap, subst, arith, inl, inr}
use Rattle.std.specs.Prelude.{◌⊎◌, Some, codes, ◌==◌, if◌then◌else◌}
use Rattle.std.proofs.lemmas.List.{length-append}
use Rattle.std.proofs.lemmas.Bool.{ne_eqb, eqb-false}
use Rattle.body_cutter.specs.declared.place.Kind.{Kind}
use Rattle.body_cutter.specs.Tables.{more_brackets, section_letter}
use Rattle.body_cutter.specs.Viable.{Without}
use Rattle.body_cutter.proofs.Control.{Control, advance}
use Rattle.body_cutter.proofs.CompletionTurns.{Phase, Before, Plain, AfterLess, Word, Section, Referring, Turn}
use Rattle.body_cutter.proofs.CompletionPhases.{Run, phase}
use Rattle.body_cutter.proofs.CompletionSections.{without_more, without_less, end_mark, NoEnd, first, letter_and}

-- the text opens something after a run from c to a plain phase, and then is like this
pub record Opened (kind : Kind) (c : Control) (text piece : List ℕ) (P : List ℕ → Type 0) : Type 0 where
  pub before : List ℕ
  pub inside : List ℕ
  pub at : Control
  pub is : text ≡ before ++ (piece ++ inside)
  pub run : Run kind c before at
  pub plain : phase at ≡ Plain
  pub like : P inside

later : {kind : Kind} {c next : Control} {b : ℕ} {text piece : List ℕ} {P : List ℕ → Type 0} → advance kind c b ≡ Some next → Turn (phase c) b (phase next) → Opened kind next text piece P → Opened kind c (b ∷ text) piece P
later {b = b} e t o = record { before = b ∷ o.before; inside = o.inside; at = o.at; is = ap (λ (xs : List ℕ). b ∷ xs) o.is; run = Run.go e t o.run; plain = o.plain; like = o.like }

-- sections
abbrev section_mark : List ℕ
section_mark = codes "<![CDATA["

abbrev InPart : List ℕ → List ℕ → Type 0
InPart part text = (inside : List ℕ) × (text ≡ part ++ inside) × Without end_mark inside

-- what is said from a phase on, apart from what opens later
abbrev Rest : Phase → List ℕ → Type 0
Rest (Section count) text = NoEnd count text
Rest (Word count) text = InPart (drop count (codes "[CDATA") ++ codes "[") text
Rest AfterLess text = InPart (codes "![CDATA[") text
Rest _ text = ⊥

-- so many `]` are counted
abbrev Small : Phase → Type 0
Small (Section count) = count ≤ 2
Small _ = Unit {0}

small_more : (count : ℕ) → more_brackets count ≤ 2
unfolding more_brackets
small_more count = by (count == 0)
  where
    by : (t : Bool) → (if t then 1 else 2) ≤ 2
    by true = omega arith
    by false = omega arith

small_next : (x y : Phase) (b : ℕ) → Turn x b y → Small y
small_next (Section count) (Section next) b (inl t) = subst (λ (n : ℕ). n ≤ 2) (sym t.1) (small_more count)
small_next (Section count) (Section next) b (inr t) = subst (λ (n : ℕ). n ≤ 2) (sym t.2) (omega arith)
small_next (Word count) (Section next) b t = subst (λ (n : ℕ). n ≤ 2) (sym t.2) (omega arith)
small_next Before (Section next) b t = absurd t
small_next Plain (Section next) b t = absurd t
small_next AfterLess (Section next) b t = absurd t
small_next Referring (Section next) b t = absurd t
small_next x _ b t = tt

short : (piece text front back : List ℕ) → length text < length piece → text ≡ front ++ (piece ++ back) → ⊥
short piece text front back l e = omega (arith, l, ap length e, length-append front (piece ++ back), length-append piece back)

no_end_at_end : (count : ℕ) → NoEnd count []
no_end_at_end zero front back e = short end_mark [] front back (omega arith) e
no_end_at_end (suc zero) front back e = short end_mark (93 ∷ []) front back (omega arith) e
no_end_at_end (suc (suc n)) front back e = short end_mark (93 ∷ 93 ∷ []) front back (omega arith) e

-- one byte more in a section
no_end_bracket : (count : ℕ) (text : List ℕ) → NoEnd (more_brackets count) text → NoEnd count (93 ∷ text)
unfolding more_brackets
no_end_bracket zero text w = w
no_end_bracket (suc zero) text w = w
no_end_bracket (suc (suc n)) text w = without_more end_mark (by n text w) (λ back e. third back e)
  where
    by : (n : ℕ) (text : List ℕ) → NoEnd (more_brackets (suc (suc n))) text → Without end_mark (93 ∷ 93 ∷ text)
    by n text w = let e : more_brackets (suc (suc n)) ≡ 2 = rw (ne_eqb (suc (suc n)) 0 (λ e. omega (arith, e))) refl in subst (λ (k : ℕ). NoEnd k text) e w

    third : (back : List ℕ) → 93 ∷ 93 ∷ 93 ∷ text ≡ end_mark ++ back → ⊥
    third back e = cc

no_end_other : (count b : ℕ) (text : List ℕ) → count ≤ 2 → (b ≡ 93 → ⊥) → (b == 62 && count == 2) ≡ false → Without end_mark text → NoEnd count (b ∷ text)
no_end_other zero b text l n m w = without_more end_mark w (λ back e. n (cc))
no_end_other (suc zero) b text l n m w = without_more end_mark (without_more end_mark w (λ back e. n (cc))) (λ back e. n (cc))
no_end_other (suc (suc zero)) b text l n m w =
    without_more end_mark (without_more end_mark (without_more end_mark w (λ back e. n (cc))) (λ back e. n (cc))) (λ back e. no_mark (b == 62) refl m (cc))
  where
    no_mark : (t : Bool) → (b == 62) ≡ t → (t && true) ≡ false → b ≡ 62 → ⊥
    no_mark true e m f = absurd_of m
      where
        absurd_of : true ≡ false → ⊥
        absurd_of h = cc
    no_mark false e m f = eqb-false b 62 e f
no_end_other (suc (suc (suc n))) b text l m k w = absurd (omega (arith, l))

-- one letter more of the beginning of a section
letter_back : (count : ℕ) → count < 6 → drop count (codes "[CDATA") ++ codes "[" ≡ section_letter count ∷ (drop (count + 1) (codes "[CDATA") ++ codes "[")
unfolding section_letter
letter_back zero l = refl
letter_back (suc zero) l = refl
letter_back (suc (suc zero)) l = refl
letter_back (suc (suc (suc zero))) l = refl
letter_back (suc (suc (suc (suc zero)))) l = refl
letter_back (suc (suc (suc (suc (suc zero))))) l = refl
letter_back (suc (suc (suc (suc (suc (suc n)))))) l = absurd (omega (arith, l))

none_left : (n : ℕ) → let none : List ℕ = [] in drop n none ≡ []
none_left zero = refl
none_left (suc n) = refl

letters_gone : (count : ℕ) → 6 ≤ count → drop count (codes "[CDATA") ≡ []
letters_gone zero l = absurd (omega (arith, l))
letters_gone (suc zero) l = absurd (omega (arith, l))
letters_gone (suc (suc zero)) l = absurd (omega (arith, l))
letters_gone (suc (suc (suc zero))) l = absurd (omega (arith, l))
letters_gone (suc (suc (suc (suc zero)))) l = absurd (omega (arith, l))
letters_gone (suc (suc (suc (suc (suc zero))))) l = absurd (omega (arith, l))
letters_gone (suc (suc (suc (suc (suc (suc n)))))) l = none_left n

-- what is said from the phase before a byte
before_byte : (x y : Phase) (b : ℕ) (text : List ℕ) → Small x → Turn x b y → Rest y text → Rest x (b ∷ text) ⊎ ((x ≡ Plain) × InPart section_mark (b ∷ text))
before_byte (Section count) (Section next) b text s (inl t) r =
    inl (subst (λ (x : ℕ). NoEnd count (x ∷ text)) (sym t.0) (no_end_bracket count text (subst (λ (n : ℕ). NoEnd n text) t.1 r)))
before_byte (Section count) (Section next) b text s (inr t) r = inl (no_end_other count b text s (eqb-false b 93 t.0) t.1 (subst (λ (n : ℕ). NoEnd n text) t.2 r))
before_byte (Word count) (Section next) b text s t r =
    inl (text, ap (λ (x : ℕ). x ∷ text) t.1 ∙ ap (λ (xs : List ℕ). (xs ++ codes "[") ++ text) (sym (letters_gone count t.0)), subst (λ (n : ℕ). NoEnd n text) t.2 r)
before_byte (Word count) (Word next) b text s t r =
    inl (
      r.0,
      ap (λ (xs : List ℕ). b ∷ xs) r.1 ∙ ap (λ (n : ℕ). b ∷ ((drop n (codes "[CDATA") ++ codes "[") ++ r.0)) t.1
          ∙ ap (λ (x : ℕ). x ∷ ((drop (count + 1) (codes "[CDATA") ++ codes "[") ++ r.0)) t.2 ∙ ap (λ (xs : List ℕ). xs ++ r.0) (sym (letter_back count t.0)),
      r.2,
    )
before_byte AfterLess (Word count) b text s t r =
    inl (r.0, ap (λ (x : ℕ). x ∷ text) t.0 ∙ ap (λ (xs : List ℕ). 33 ∷ xs) (r.1 ∙ ap (λ (n : ℕ). (drop n (codes "[CDATA") ++ codes "[") ++ r.0) t.1), r.2)
before_byte Plain AfterLess b text s t r = inr (refl, (r.0, ap (λ (x : ℕ). x ∷ text) t ∙ ap (λ (xs : List ℕ). 60 ∷ xs) r.1, r.2))
before_byte Before AfterLess b text s t r = absurd t
before_byte AfterLess AfterLess b text s t r = absurd t
before_byte (Word count) AfterLess b text s t r = absurd t
before_byte (Section count) AfterLess b text s t r = absurd t
before_byte Referring AfterLess b text s t r = absurd t
before_byte Before (Word next) b text s t r = absurd t
before_byte Plain (Word next) b text s t r = absurd t
before_byte (Section count) (Word next) b text s t r = absurd t
before_byte Referring (Word next) b text s t r = absurd t
before_byte Before (Section next) b text s t r = absurd t
before_byte Plain (Section next) b text s t r = absurd t
before_byte AfterLess (Section next) b text s t r = absurd t
before_byte Referring (Section next) b text s t r = absurd t
before_byte x _ b text s t r = absurd r

abbrev pub OpensSection : Kind → Control → List ℕ → Type 0
OpensSection kind c text = Opened kind c text section_mark (λ inside. Without end_mark inside)

section_byte : {kind : Kind} {c next : Control} (b : ℕ) (text : List ℕ) → advance kind c b ≡ Some next → Turn (phase c) b (phase next) → Small (phase c) → Rest (phase next) text ⊎ OpensSection kind next text → Rest (phase c) (b ∷ text) ⊎ OpensSection kind c (b ∷ text)
section_byte b text e t s (inr o) = inr (later e t o)
section_byte {kind = kind} {c = c} {next = next} b text e t s (inl r) = by (before_byte (phase c) (phase next) b text s t r)
  where
    by : Rest (phase c) (b ∷ text) ⊎ ((phase c ≡ Plain) × InPart section_mark (b ∷ text)) → Rest (phase c) (b ∷ text) ⊎ OpensSection kind c (b ∷ text)
    by (inl r) = inl r
    by (inr (p, i)) = inr (record { before = []; inside = i.0; at = c; is = i.1; run = Run.stop; plain = p; like = i.2 })

section_rest : {kind : Kind} {c d : Control} {text : List ℕ} (last : ℕ) → phase d ≡ Section last → Run kind c text d → Small (phase c) → Rest (phase c) text ⊎ OpensSection kind c text
section_rest {c = c} last e Run.stop s = inl (subst (λ (x : Phase). Rest x []) (sym e) (no_end_at_end last))
section_rest {c = c} last e (Run.go {next = next} {b = b} {text = text} a t r) s = section_byte b text a t s (section_rest last e r (small_next (phase c) (phase next) b t))

-- a run from a plain phase, or from before the body, that ends in a section
pub opens_section : {kind : Kind} {c d : Control} {text : List ℕ} (last : ℕ) → (phase c ≡ Before) ⊎ (phase c ≡ Plain) → phase d ≡ Section last → Run kind c text d → OpensSection kind c text
opens_section {kind = kind} {c = c} {text = text} last (inl s) e r = by (section_rest last e r (subst (λ (x : Phase). Small x) (sym s) tt))
  where
    by : Rest (phase c) text ⊎ OpensSection kind c text → OpensSection kind c text
    by (inl h) = absurd (subst (λ (x : Phase). Rest x text) s h)
    by (inr o) = o
opens_section {kind = kind} {c = c} {text = text} last (inr s) e r = by (section_rest last e r (subst (λ (x : Phase). Small x) (sym s) tt))
  where
    by : Rest (phase c) text ⊎ OpensSection kind c text → OpensSection kind c text
    by (inl h) = absurd (subst (λ (x : Phase). Rest x text) s h)
    by (inr o) = o

-- references
abbrev semicolon : List ℕ
semicolon = codes ";"

abbrev InRef : Phase → List ℕ → Type 0
InRef Referring text = Without semicolon text
InRef _ text = ⊥

abbrev pub OpensReference : Kind → Control → List ℕ → Type 0
OpensReference kind c text = Opened kind c text (codes "&") (λ inside. Without (codes ";") inside)

no_semicolon : (b : ℕ) (text : List ℕ) → (b == 59) ≡ false → Without semicolon text → Without semicolon (b ∷ text)
no_semicolon b text h w = without_more semicolon w (λ back e. eqb-false b 59 h (cc))

before_ref : (x y : Phase) (b : ℕ) (text : List ℕ) → Turn x b y → InRef y text → InRef x (b ∷ text) ⊎ ((x ≡ Plain) × (b ≡ 38) × Without semicolon text)
before_ref Referring Referring b text t r = inl (no_semicolon b text t.1 r)
before_ref Plain Referring b text t r = inr (refl, t, r)
before_ref Before Referring b text t r = absurd t
before_ref AfterLess Referring b text t r = absurd t
before_ref (Word count) Referring b text t r = absurd t
before_ref (Section count) Referring b text t r = absurd t
before_ref x _ b text t r = absurd r

ref_byte : {kind : Kind} {c next : Control} (b : ℕ) (text : List ℕ) → advance kind c b ≡ Some next → Turn (phase c) b (phase next) → InRef (phase next) text ⊎ OpensReference kind next text → InRef (phase c) (b ∷ text) ⊎ OpensReference kind c (b ∷ text)
ref_byte b text e t (inr o) = inr (later e t o)
ref_byte {kind = kind} {c = c} {next = next} b text e t (inl r) = by (before_ref (phase c) (phase next) b text t r)
  where
    by : InRef (phase c) (b ∷ text) ⊎ ((phase c ≡ Plain) × (b ≡ 38) × Without semicolon text) → InRef (phase c) (b ∷ text) ⊎ OpensReference kind c (b ∷ text)
    by (inl r) = inl r
    by (inr p) = inr (record { before = []; inside = text; at = c; is = ap (λ (x : ℕ). x ∷ text) p.1; run = Run.stop; plain = p.0; like = p.2 })

ref_rest : {kind : Kind} {c d : Control} {text : List ℕ} → phase d ≡ Referring → Run kind c text d → InRef (phase c) text ⊎ OpensReference kind c text
ref_rest e Run.stop = inl (subst (λ (x : Phase). InRef x []) (sym e) (λ front back h. short semicolon [] front back (omega arith) h))
ref_rest e (Run.go {b = b} {text = text} a t r) = ref_byte b text a t (ref_rest e r)

pub opens_reference : {kind : Kind} {c d : Control} {text : List ℕ} → (phase c ≡ Before) ⊎ (phase c ≡ Plain) → phase d ≡ Referring → Run kind c text d → OpensReference kind c text
opens_reference {kind = kind} {c = c} {text = text} (inl s) e r = by (ref_rest e r)
  where
    by : InRef (phase c) text ⊎ OpensReference kind c text → OpensReference kind c text
    by (inl h) = absurd (subst (λ (x : Phase). InRef x text) s h)
    by (inr o) = o
opens_reference {kind = kind} {c = c} {text = text} (inr s) e r = by (ref_rest e r)
  where
    by : InRef (phase c) text ⊎ OpensReference kind c text → OpensReference kind c text
    by (inl h) = absurd (subst (λ (x : Phase). InRef x text) s h)
    by (inr o) = o

-- a reference goes on up to its `;`
ref_goes : (b : ℕ) (text : List ℕ) (y : Phase) → Turn Referring b y → Without semicolon (b ∷ text) → y ≡ Referring
ref_goes b text Referring t w = refl
ref_goes b text Plain t w = absurd (w [] text (ap (λ (x : ℕ). x ∷ text) t))
ref_goes b text _ t w = absurd t

stays_referring : {kind : Kind} {c d : Control} {text : List ℕ} → Run kind c text d → phase c ≡ Referring → Without semicolon text → phase d ≡ Referring
stays_referring Run.stop e w = e
stays_referring (Run.go {next = next} {b = b} {text = text} a t r) e w =
    stays_referring r (ref_goes b text (phase next) (subst (λ (x : Phase). Turn x b (phase next)) e t) w) (without_less semicolon w)

true_false : {P : Type 0} → true ≡ false → P
true_false h = absurd (cc)

-- an `&` outside a section begins one
and_goes : (x y : Phase) → (x ≡ Before → ⊥) → ((count : ℕ) → x ≡ Section count → ⊥) → Turn x 38 y → y ≡ Referring
and_goes Plain Referring n m t = refl
and_goes Plain Plain n m t = true_false t.0
and_goes Plain AfterLess n m t = absurd (omega (arith, t))
and_goes Plain _ n m t = absurd t
and_goes Before y n m t = absurd (n refl)
and_goes (Section count) y n m t = absurd (m count refl)
and_goes AfterLess Plain n m t = true_false t.0.0
and_goes AfterLess (Word count) n m t = absurd (omega (arith, t.0))
and_goes AfterLess _ n m t = absurd t
and_goes (Word count) (Word next) n m t = absurd (letter_and count t.2)
and_goes (Word count) (Section next) n m t = absurd (omega (arith, t.1))
and_goes (Word count) _ n m t = absurd t
and_goes Referring Referring n m t = true_false t.0.0
and_goes Referring Plain n m t = absurd (omega (arith, t))
and_goes Referring _ n m t = absurd t

pub refers_on : {kind : Kind} {c d : Control} {inside : List ℕ} → (phase c ≡ Before → ⊥) → ((count : ℕ) → phase c ≡ Section count → ⊥) → Without (codes ";") inside → Run kind c (38 ∷ inside) d → phase d ≡ Referring
refers_on {c = c} n m w r = let f = first r in stays_referring f.3 (and_goes (phase c) _ n m f.2) w

-- the last byte before a phase after a `<`
ends_byte : (x : Phase) (b : ℕ) → Turn x b AfterLess → b ≡ 60
ends_byte Plain b t = t
ends_byte Before b t = absurd t
ends_byte AfterLess b t = absurd t
ends_byte (Word count) b t = absurd t
ends_byte (Section count) b t = absurd t
ends_byte Referring b t = absurd t

abbrev pub EndsLess : Control → List ℕ → Type 0
EndsLess c text = ((text ≡ []) × (phase c ≡ AfterLess)) ⊎ ((before : List ℕ) × (text ≡ before ++ codes "<"))

less_byte : (x y : Phase) (b : ℕ) (text : List ℕ) → Turn x b y → ((text ≡ []) × (y ≡ AfterLess)) ⊎ ((before : List ℕ) × (text ≡ before ++ codes "<")) → (before : List ℕ) × (b ∷ text ≡ before ++ codes "<")
less_byte x y b text t (inl p) = ([], ap (λ (n : ℕ). n ∷ text) (ends_byte x b (subst (λ (z : Phase). Turn x b z) p.1 t)) ∙ ap (λ (xs : List ℕ). 60 ∷ xs) p.0)
less_byte x y b text t (inr p) = (b ∷ p.0, ap (λ (xs : List ℕ). b ∷ xs) p.1)

pub ends_less : {kind : Kind} {c d : Control} {text : List ℕ} → phase d ≡ AfterLess → Run kind c text d → EndsLess c text
ends_less e Run.stop = inl (refl, e)
ends_less {c = c} e (Run.go {next = next} {b = b} {text = text} a t r) = inr (less_byte (phase c) (phase next) b text t (ends_less e r))
