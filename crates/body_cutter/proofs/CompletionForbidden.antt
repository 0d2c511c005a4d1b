-- The facts of a forbidden byte, told by the reader's state and by the bytes.
use Rattle.std.proofs.Common.{◌≡◌, ℕ, Bool, true, false, ◌&&◌, ◌||◌, List, [], refl, subst, inl, inr}
use Rattle.std.specs.Prelude.{◌⊎◌, ◌↔◌, Option, None, Some, is_some, codes, ◌==◌}
use Rattle.std.proofs.lemmas.Bool.{and_parts, and_from, or_cases}
use Rattle.body_cutter.specs.declared.place.Place.{Place}
use Rattle.body_cutter.specs.declared.place.Place.TheVariants.{Start, First, DeclarationWord, Declaration, Prolog, BodyWord, StanzaStart, Content as InContent, Opened as OpenedHere, SectionWord, Section as InSectionHere, EndName, EndSpace, TagName, TagSpace, TagSlash, AttrName, AttrEquals, AttrQuote, Value as InValue, AfterValue}
use Rattle.body_cutter.specs.declared.place.Reference.{Reference}
use Rattle.body_cutter.specs.declared.place.Kind.{Kind}
use Rattle.body_cutter.specs.Reader.{State}
use Rattle.body_cutter.specs.Refusal.{is_before_body, is_opened, is_forbidden, ends_in_section_start}
use Rattle.body_cutter.specs.Viable.{InSection, InReference, EndsOpened, IsForbiddenAfter}
use Rattle.body_cutter.proofs.Control.{Control, control_of}
use Rattle.body_cutter.proofs.CompletionNames.{lands}
use Rattle.body_cutter.proofs.CompletionTurns.{Phase, Before, Plain, AfterLess, Word, Section, Referring, Turn, place_phase, phase_of}
use Rattle.body_cutter.proofs.CompletionPhases.{Run, Tidy, phase, run_of, run_split, lands_of}
use Rattle.body_cutter.proofs.CompletionSections.{first, ends_inside, less_goes}
use Rattle.body_cutter.proofs.CompletionOpens.{EndsLess, opens_section, opens_reference, refers_on, ends_less}

-- the place of each phase
before_place : (place : Place) (o : Option Reference) → is_before_body place ≡ false → phase_of place o ≡ Before → ⊥
unfolding is_before_body
before_place Start None h e = cc
before_place First None h e = cc
before_place (DeclarationWord count) None h e = cc
before_place (Declaration after_mark) None h e = cc
before_place Prolog None h e = cc
before_place (BodyWord count) None h e = cc
before_place StanzaStart None h e = cc
before_place (InContent count) None h e = cc
before_place OpenedHere None h e = cc
before_place (SectionWord count) None h e = cc
before_place (InSectionHere count) None h e = cc
before_place (EndName count) None h e = cc
before_place EndSpace None h e = cc
before_place TagName None h e = cc
before_place TagSpace None h e = cc
before_place TagSlash None h e = cc
before_place AttrName None h e = cc
before_place AttrEquals None h e = cc
before_place AttrQuote None h e = cc
before_place (InValue quote after_cr) None h e = cc
before_place AfterValue None h e = cc
before_place place (Some reference) h e = cc

plain_place : (place : Place) (o : Option Reference) → phase_of place o ≡ Plain → is_before_body place ≡ false
unfolding is_before_body
plain_place Start None e = absurd (cc)
plain_place First None e = absurd (cc)
plain_place (DeclarationWord count) None e = absurd (cc)
plain_place (Declaration after_mark) None e = absurd (cc)
plain_place Prolog None e = absurd (cc)
plain_place (BodyWord count) None e = absurd (cc)
plain_place StanzaStart None e = refl
plain_place (InContent count) None e = refl
plain_place OpenedHere None e = absurd (cc)
plain_place (SectionWord count) None e = absurd (cc)
plain_place (InSectionHere count) None e = absurd (cc)
plain_place (EndName count) None e = refl
plain_place EndSpace None e = refl
plain_place TagName None e = refl
plain_place TagSpace None e = refl
plain_place TagSlash None e = refl
plain_place AttrName None e = refl
plain_place AttrEquals None e = refl
plain_place AttrQuote None e = refl
plain_place (InValue quote after_cr) None e = refl
plain_place AfterValue None e = refl
plain_place place (Some reference) e = absurd (cc)

opened_phase : (place : Place) → is_opened place ≡ true → place_phase place ≡ AfterLess
opened_phase OpenedHere h = refl
opened_phase _ h = absurd (cc)

opened_place : (place : Place) (o : Option Reference) → phase_of place o ≡ AfterLess → is_opened place ≡ true
opened_place OpenedHere None e = refl
opened_place _ None e = absurd (cc)
opened_place place (Some reference) e = absurd (cc)

referring : (place : Place) (o : Option Reference) → is_some o ≡ true → phase_of place o ≡ Referring
referring place None h = absurd (cc)
referring place (Some reference) h = refl

is_referring : (place : Place) (o : Option Reference) → phase_of place o ≡ Referring → is_some o ≡ true
is_referring place None e = absurd (never place e)
  where
    never : (place : Place) → place_phase place ≡ Referring → ⊥
    never Start e = cc
    never First e = cc
    never (DeclarationWord count) e = cc
    never (Declaration after_mark) e = cc
    never Prolog e = cc
    never (BodyWord count) e = cc
    never OpenedHere e = cc
    never (SectionWord count) e = cc
    never (InSectionHere count) e = cc
    never _ e = cc
is_referring place (Some reference) e = refl

plain_no_section : (x : Phase) (count : ℕ) → x ≡ Plain → x ≡ Section count → ⊥
plain_no_section x count e f = cc

less_no_section : (x : Phase) (count : ℕ) → x ≡ AfterLess → x ≡ Section count → ⊥
less_no_section x count e f = cc

-- where a run begins, and what fits
module _ (kind : Kind) (start : Control) (tidy : Tidy start) (begins : (phase start ≡ Before) ⊎ (phase start ≡ Plain)) (Fits : List ℕ → Type 0) (fits : (front : List ℕ) (e : Control) → lands kind start front ≡ Some e → (is_before_body e.place ≡ false) ↔ Fits front) where
  no_less : phase start ≡ AfterLess → ⊥
  no_less h = by begins
    where
      by : (phase start ≡ Before) ⊎ (phase start ≡ Plain) → ⊥
      by (inl e) = cc
      by (inr e) = cc

  -- a section is open exactly where the run ends in one
  in_section : (front : List ℕ) (d : Control) → Run kind start front d → InSection Fits front → (last : ℕ) × (phase d ≡ Section last)
  in_section front d r s =
      let k = run_split s.before (subst (λ (xs : List ℕ). Run kind start xs d) s.is r) in
      ends_inside (before_place k.0.place k.0.reference ((fits s.before k.0 (lands_of k.1)).1 s.fits)) s.open_ k.2

  section_in : (front : List ℕ) (d : Control) (last : ℕ) → Run kind start front d → phase d ≡ Section last → InSection Fits front
  section_in front d last r e =
      let o = opens_section last begins e r in
      record { before = o.before; inside = o.inside; is = o.is; fits = (fits o.before o.at (lands_of o.run)).0 (plain_place o.at.place o.at.reference o.plain); open_ = o.like }

  reference_in : (front : List ℕ) (d : Control) → Run kind start front d → phase d ≡ Referring → InReference Fits front
  reference_in front d r e =
      let o = opens_reference begins e r in
      record {
        before = o.before;
        inside = o.inside;
        is = o.is;
        fits = (fits o.before o.at (lands_of o.run)).0 (plain_place o.at.place o.at.reference o.plain);
        outside = λ s. let k = in_section o.before o.at o.run s in plain_no_section (phase o.at) k.0 o.plain k.1;
        open_ = o.like;
      }

  in_reference : (front : List ℕ) (d : Control) → Run kind start front d → InReference Fits front → phase d ≡ Referring
  in_reference front d r s =
      let k = run_split s.before (subst (λ (xs : List ℕ). Run kind start xs d) s.is r) in
      refers_on (before_place k.0.place k.0.reference ((fits s.before k.0 (lands_of k.1)).1 s.fits)) (λ count e. s.outside (section_in s.before k.0 count k.1 e)) s.open_ k.2

  less_in : (front : List ℕ) (d : Control) → Run kind start front d → phase d ≡ AfterLess → EndsOpened Fits front
  less_in front d r e = by (ends_less e r)
    where
      by : EndsLess start front → EndsOpened Fits front
      by (inl p) = absurd (no_less p.1)
      by (inr p) = record { before = p.0; is = p.1; outside = λ s. let k = in_section front d r s in less_no_section (phase d) k.0 e k.1 }

  before_less : (x y : Phase) → (y ≡ Before → ⊥) → Turn x 60 y → (y ≡ AfterLess) ⊎ (y ≡ Section 0)
  before_less Before Before n t = absurd (n refl)
  before_less Before Plain n t = true_false t.1
    where
      true_false : {P : Type 0} → true ≡ false → P
      true_false h = absurd (cc)
  before_less Before _ n t = absurd t
  before_less Plain y n t = less_goes Plain y (λ e. absurd (cc)) t
  before_less AfterLess y n t = less_goes AfterLess y (λ e. absurd (cc)) t
  before_less (Word count) y n t = less_goes (Word count) y (λ e. absurd (cc)) t
  before_less (Section count) y n t = less_goes (Section count) y (λ e. absurd (cc)) t
  before_less Referring y n t = less_goes Referring y (λ e. absurd (cc)) t

  last_run : (c d : Control) → Run kind c (codes "<") d → Turn (phase c) 60 (phase d)
  last_run c d r = let f = first r in subst (λ (x : Control). Turn (phase c) 60 (phase x)) (ended f.3) f.2
    where
      ended : {x : Control} → Run kind x [] d → x ≡ d
      ended Run.stop = refl

  in_less : (front : List ℕ) (d : Control) → Run kind start front d → is_before_body d.place ≡ false → EndsOpened Fits front → phase d ≡ AfterLess
  in_less front d r l s = by (before_less (phase k.0) (phase d) (before_place d.place d.reference l) (last_run k.0 d k.2))
    where
      k : (e : Control) × Run kind start s.before e × Run kind e (codes "<") d
      k = run_split s.before (subst (λ (xs : List ℕ). Run kind start xs d) s.is r)

      by : (phase d ≡ AfterLess) ⊎ (phase d ≡ Section 0) → phase d ≡ AfterLess
      by (inl e) = e
      by (inr e) = absurd (s.outside (section_in front d 0 r e))

  or_left : (a b : Bool) → a ≡ true → (a || b) ≡ true
  or_left true b h = refl
  or_left false b h = absurd (cc)

  or_right : (a b : Bool) → b ≡ true → (a || b) ≡ true
  or_right true b h = refl
  or_right false b h = h

  -- the facts of a forbidden byte
  told : (front : List ℕ) (s : State) (b : ℕ) → Run kind start front (control_of s) → is_forbidden front s b ≡ true → IsForbiddenAfter Fits front b
  unfolding is_forbidden
  told front s b r h = by (or_cases (is_some s.reference) _ h)
    where
      here : (o : Option Reference) → is_opened s.place ≡ true → phase_of s.place s.reference ≡ AfterLess ⊎ (phase_of s.place s.reference ≡ Referring)
      here o h = at s.reference
        where
          at : (o : Option Reference) → (phase_of s.place o ≡ AfterLess) ⊎ (phase_of s.place o ≡ Referring)
          at None = inl (opened_phase s.place h)
          at (Some reference) = inr refl

      by : (is_some s.reference ≡ true) ⊎ (((is_opened s.place && (b == 63 || b == 33)) || ends_in_section_start front) ≡ true) → IsForbiddenAfter Fits front b
      by (inl e) = IsForbiddenAfter.reference (reference_in front (control_of s) r (referring s.place s.reference e))
      by (inr e) = rest (or_cases (is_opened s.place && (b == 63 || b == 33)) (ends_in_section_start front) e)
        where
          rest : ((is_opened s.place && (b == 63 || b == 33)) ≡ true) ⊎ (ends_in_section_start front ≡ true) → IsForbiddenAfter Fits front b
          rest (inr e) = IsForbiddenAfter.section e
          rest (inl e) = opened (here s.reference (and_parts (is_opened s.place) (b == 63 || b == 33) e).0)
            where
              opened : (phase_of s.place s.reference ≡ AfterLess) ⊎ (phase_of s.place s.reference ≡ Referring) → IsForbiddenAfter Fits front b
              opened (inl p) = IsForbiddenAfter.markup (less_in front (control_of s) r p) (and_parts (is_opened s.place) (b == 63 || b == 33) e).1
              opened (inr p) = IsForbiddenAfter.reference (reference_in front (control_of s) r p)

  tells : (front : List ℕ) (s : State) (b : ℕ) → Run kind start front (control_of s) → is_before_body s.place ≡ false → IsForbiddenAfter Fits front b → is_forbidden front s b ≡ true
  unfolding is_forbidden
  tells front s b r l (IsForbiddenAfter.reference i) = or_left _ _ (is_referring s.place s.reference (in_reference front (control_of s) r i))
  tells front s b r l (IsForbiddenAfter.markup i e) =
      or_right (is_some s.reference) _ (or_left _ _ (and_from (is_opened s.place) _ (opened_place s.place s.reference (in_less front (control_of s) r l i)) e))
  tells front s b r l (IsForbiddenAfter.section e) = or_right (is_some s.reference) _ (or_right (is_opened s.place && (b == 63 || b == 33)) _ e)

  pub forbidden_is : (front : List ℕ) (s : State) (b : ℕ) → lands kind start front ≡ Some (control_of s) → is_before_body s.place ≡ false → (is_forbidden front s b ≡ true) ↔ IsForbiddenAfter Fits front b
  forbidden_is front s b h l = let r = run_of kind front start (control_of s) tidy h in (told front s b r, tells front s b r l)
