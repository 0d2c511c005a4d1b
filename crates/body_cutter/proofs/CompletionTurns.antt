-- The phases of a reading: before the body, after a `<`, in the beginning of a CDATA section, in a section, in a reference, or in
-- none of these; and which bytes turn one into another.
use Rattle.std.proofs.Common.{◌≡◌, ◌∙◌, ◌+◌, ◌<◌, ◌≤◌, ℕ, Bool, true, false, ◌&&◌, ◌||◌, refl, ap, arith, inl, inr}
use Rattle.std.specs.Prelude.{◌⊎◌, Option, None, Some, nat_lt, ◌==◌, if◌then◌else◌}
use Rattle.std.proofs.lemmas.Bool.{eqb-true, ltb-true, ltb-false, and_parts}
use Rattle.std.proofs.lemmas.Bool.Decides.{nat_tests}
use Rattle.body_cutter.specs.declared.place.Place.{Place}
use Rattle.body_cutter.specs.declared.place.Place.TheVariants.{Start, First, DeclarationWord, Declaration, Prolog, BodyWord, StanzaStart, Content as InContent, Opened, SectionWord, Section as InSection, EndName, EndSpace, TagName, TagSpace, TagSlash, AttrName, AttrEquals, AttrQuote, Value as InValue, AfterValue}
use Rattle.body_cutter.specs.declared.place.Around.{Around}
use Rattle.body_cutter.specs.declared.place.Around.TheVariants.{NoBody, NoStanza, Body, Child}
use Rattle.body_cutter.specs.declared.place.Reference.{Reference}
use Rattle.body_cutter.specs.declared.place.Act.{Act}
use Rattle.body_cutter.specs.declared.place.Act.TheVariants.{Pass, Mark, BeginName, GrowName, OpenElement, EndAttrName, ValueByte, ValueChar, EndAttr, CloseElement}
use Rattle.body_cutter.specs.declared.place.Move.{Move}
use Rattle.body_cutter.specs.Chars.{is_space, is_char_byte, is_name_start, is_name_byte, is_letter, is_digit, begins_name_plainly, grows_name_plainly}
use Rattle.body_cutter.specs.Tables.{goes, goes_if, start_next, first_next, declaration_word_next, xml_letter, declaration_next, prolog_next, body_word_next, body_letter, name_ended, stanza_start_next, content_next, body_content_next, child_content_next, more_brackets, opened_next, opened_in_body, opened_in_child, section_word_next, section_letter, section_next, end_name_next, end_space_next, tag_name_next, tag_space_next, tag_slash_next, attr_name_next, attr_equals_next, attr_quote_next, value_next, value_plain, after_value_next}
use Rattle.body_cutter.specs.Reader.{place_next}

pub data Phase : Type 0 where
  Before : Phase
  Plain : Phase
  AfterLess : Phase
  Word : ℕ → Phase
  Section : ℕ → Phase
  Referring : Phase

abbrev pub place_phase : Place → Phase
place_phase Start = Before
place_phase First = Before
place_phase (DeclarationWord count) = Before
place_phase (Declaration after_mark) = Before
place_phase Prolog = Before
place_phase (BodyWord count) = Before
place_phase Opened = AfterLess
place_phase (SectionWord count) = Word count
place_phase (InSection count) = Section count
place_phase _ = Plain

abbrev pub phase_of : Place → Option Reference → Phase
phase_of place None = place_phase place
phase_of place (Some reference) = Referring

-- no `&` and no `<`
abbrev pub Calm : ℕ → Type 0
Calm b = ((b == 38) ≡ false) × ((b == 60) ≡ false)

-- the byte turns one phase into the other
abbrev pub Turn : Phase → ℕ → Phase → Type 0
Turn Before b Before = Unit {0}
Turn Before b Plain = Calm b
Turn Plain b Plain = Calm b
Turn Plain b AfterLess = b ≡ 60
Turn Plain b Referring = b ≡ 38
Turn AfterLess b Plain = Calm b × ((b == 33) ≡ false)
Turn AfterLess b (Word count) = (b ≡ 33) × (count ≡ 0)
Turn (Word count) b (Word next) = (count < 6) × (next ≡ count + 1) × (b ≡ section_letter count)
Turn (Word count) b (Section brackets) = (6 ≤ count) × (b ≡ 91) × (brackets ≡ 0)
Turn (Section count) b (Section next) = ((b ≡ 93) × (next ≡ more_brackets count)) ⊎ (((b == 93) ≡ false) × ((b == 62 && count == 2) ≡ false) × (next ≡ 0))
Turn (Section count) b Plain = (b ≡ 62) × (count ≡ 2)
Turn Referring b Referring = Calm b × ((b == 59) ≡ false)
Turn Referring b Plain = b ≡ 59
Turn _ b _ = ⊥

-- a name has bytes of names
abbrev pub Grows : Act → ℕ → Type 0
Grows BeginName b = is_name_byte b ≡ true
Grows GrowName b = is_name_byte b ≡ true
Grows _ b = Unit {0}

-- a reference stands in no other phase
abbrev pub Under : Place → Option Reference → Type 0
Under place None = Unit {0}
Under place (Some reference) = place_phase place ≡ Plain

-- the quote of a value is no `&` and no `<`
abbrev pub QuoteOf : Place → Type 0
QuoteOf (InValue quote after_cr) = ((quote == 38) ≡ false) × ((quote == 60) ≡ false)
QuoteOf _ = Unit {0}

abbrev pub Tells : Phase → ℕ → Option Move → Type 0
Tells x b None = Unit {0}
Tells x b (Some move) = Turn x b (phase_of move.place move.reference) × Grows move.act b × Under move.place move.reference × QuoteOf move.place

-- what a move from a phase tells
pub record Turns (x : Phase) (b : ℕ) (o : Option Move) : Type 0 where
  pub tells : Tells x b o

split : {x : Phase} {b : ℕ} (t : Bool) (y z : Option Move) → (t ≡ true → Turns x b y) → (t ≡ false → Turns x b z) → Turns x b (if t then y else z)
split true y z f g = f refl
split false y z f g = g refl

pub dead : {x : Phase} {b : ℕ} → Turns x b None
dead = record { tells = tt }

to : {x : Phase} {b : ℕ} (place : Place) (act : Act) → QuoteOf place → Turn x b (place_phase place) → Grows act b → Turns x b (goes place act)
to place act q t g = record { tells = (t, g, tt, q) }

only : {x : Phase} {b : ℕ} (t : Bool) (place : Place) (act : Act) → QuoteOf place → (t ≡ true → Turn x b (place_phase place) × Grows act b) → Turns x b (goes_if t place act)
only true place act q f = to place act q (f refl).0 (f refl).1
only false place act q f = dead

-- tests that tell a calm byte
calm_at : (b n : ℕ) → (b == n) ≡ true → (n == 38) ≡ false → (n == 60) ≡ false → Calm b
calm_at b n e f g = let h = eqb-true b n e in (ap (λ (x : ℕ). x == 38) h ∙ f, ap (λ (x : ℕ). x == 60) h ∙ g)

calm_space : (b : ℕ) → is_space b ≡ true → Calm b
unfolding is_space
calm_space b h = (grind (arith, nat_tests), grind (arith, nat_tests))

pub calm_name : (b : ℕ) → is_name_byte b ≡ true → Calm b
unfolding is_name_byte grows_name_plainly begins_name_plainly is_letter is_digit
calm_name b h = (grind (arith, nat_tests), grind (arith, nat_tests))

unfold_name : (b : ℕ) → (b ≡ 98) ⊎ ((b ≡ 111) ⊎ ((b ≡ 100) ⊎ (b ≡ 121))) → is_name_byte b ≡ true
unfolding is_name_byte grows_name_plainly begins_name_plainly is_letter is_digit
unfold_name b (inl e) = ap is_name_byte e
unfold_name b (inr (inl e)) = ap is_name_byte e
unfold_name b (inr (inr (inl e))) = ap is_name_byte e
unfold_name b (inr (inr (inr e))) = ap is_name_byte e

start_byte : (b : ℕ) → is_name_start b ≡ true → is_name_byte b ≡ true
unfolding is_name_start is_name_byte grows_name_plainly begins_name_plainly is_letter is_digit
start_byte b h = grind (arith, nat_tests)

start_mark : (b : ℕ) → is_name_start b ≡ true → (b == 33) ≡ false
unfolding is_name_start begins_name_plainly is_letter
start_mark b h = grind (arith, nat_tests)

body_byte : (b count : ℕ) → (b == body_letter count) ≡ true → is_name_byte b ≡ true
unfolding body_letter
body_byte b count h = unfold_name b (by (count == 0) (count == 1) (count == 2) (eqb-true b _ h))
  where
    by : (s t u : Bool) → b ≡ (if s then 98 else if t then 111 else if u then 100 else 121) → (b ≡ 98) ⊎ ((b ≡ 111) ⊎ ((b ≡ 100) ⊎ (b ≡ 121)))
    by true t u e = inl e
    by false true u e = inr (inl e)
    by false false true e = inr (inr (inl e))
    by false false false e = inr (inr (inr e))

module _ (b : ℕ) where
  ends_name : (x : Phase) → (Calm b → Turn x b Plain) → Turns x b (name_ended b)
  unfolding name_ended
  ends_name x k =
      split (b == 47) _ _ (λ t. to TagSlash OpenElement tt (k (calm_at b 47 t refl refl)) tt)
      (λ _. split (b == 62) _ _ (λ t. to (InContent 0) OpenElement tt (k (calm_at b 62 t refl refl)) tt)
      (λ _. only (is_space b) TagSpace OpenElement tt (λ t. (k (calm_space b t), tt))))

  before_turns : (place : Place) (a : Around) (o : Option (ℕ × ℕ)) → place_phase place ≡ Before → Turns Before b (place_next place a o b)
  unfolding place_next start_next first_next declaration_word_next declaration_next prolog_next body_word_next
  before_turns Start a o h = split (b == 60) _ _ (λ _. to First Pass tt tt tt) (λ _. only (is_space b) Prolog Pass tt (λ _. (tt, tt)))
  before_turns First a o h = split (b == 63) _ _ (λ _. to (DeclarationWord 0) Pass tt tt tt) (λ _. only (b == 98) (BodyWord 1) GrowName tt (λ t. (tt, unfold_name b (inl (eqb-true b 98 t)))))
  before_turns (DeclarationWord count) a o h =
      split (nat_lt count 3) _ _ (λ _. only (b == xml_letter count) (DeclarationWord (count + 1)) Pass tt (λ _. (tt, tt)))
      (λ _. only (is_space b) (Declaration false) Pass tt (λ _. (tt, tt)))
  before_turns (Declaration after_mark) a o h =
      split (after_mark && b == 62) _ _ (λ _. to Prolog Pass tt tt tt) (λ _. only (is_char_byte b) (Declaration (b == 63)) Pass tt (λ _. (tt, tt)))
  before_turns Prolog a o h = split (b == 60) _ _ (λ _. to (BodyWord 0) Pass tt tt tt) (λ _. only (is_space b) Prolog Pass tt (λ _. (tt, tt)))
  before_turns (BodyWord count) a o h =
      split (nat_lt count 4) _ _ (λ _. only (b == body_letter count) (BodyWord (count + 1)) GrowName tt (λ t. (tt, body_byte b count t)))
      (λ _. ends_name Before (λ c. c))
  before_turns _ a o h = absurd (cc)

  content_turns : (count : ℕ) (a : Around) → Turns Plain b (content_next a count b)
  unfolding content_next body_content_next child_content_next
  content_turns count NoBody = only (is_space b) (InContent 0) Pass tt (λ t. (calm_space b t, tt))
  content_turns count NoStanza = dead
  content_turns count Body = split (b == 60) _ _ (λ t. to Opened Mark tt (eqb-true b 60 t) tt) (λ _. only (is_space b) (InContent 0) Pass tt (λ t. (calm_space b t, tt)))
  content_turns count Child =
      split (b == 60) _ _ (λ t. to Opened Pass tt (eqb-true b 60 t) tt)
      (λ l. split (b == 38) _ _ (λ t. record { tells = (eqb-true b 38 t, tt, refl, tt) })
      (λ m. split (b == 93) _ _ (λ t. to (InContent (more_brackets count)) Pass tt (m, l) tt)
      (λ _. split (b == 62 && count == 2) _ _ (λ _. dead)
      (λ _. only (is_char_byte b) (InContent 0) Pass tt (λ _. ((m, l), tt))))))

  opened_in_body_turns : Turns AfterLess b (opened_in_body b)
  unfolding opened_in_body
  opened_in_body_turns =
      split (b == 47) _ _ (λ t. to (EndName 0) Pass tt (calm_at b 47 t refl refl, ap (λ (x : ℕ). x == 33) (eqb-true b 47 t)) tt)
      (λ _. only (is_name_start b) TagName BeginName tt (λ t. ((calm_name b (start_byte b t), start_mark b t), start_byte b t)))

  opened_turns : (a : Around) → Turns AfterLess b (opened_next a b)
  unfolding opened_next opened_in_child
  opened_turns NoBody = only (is_name_start b) TagName BeginName tt (λ t. ((calm_name b (start_byte b t), start_mark b t), start_byte b t))
  opened_turns NoStanza = only (is_name_start b) TagName BeginName tt (λ t. ((calm_name b (start_byte b t), start_mark b t), start_byte b t))
  opened_turns Body = opened_in_body_turns
  opened_turns Child = split (b == 33) _ _ (λ t. to (SectionWord 0) Pass tt (eqb-true b 33 t, refl) tt) (λ _. opened_in_body_turns)

  end_space_turns : Turns Plain b (end_space_next b)
  unfolding end_space_next
  end_space_turns = split (b == 62) _ _ (λ t. to (InContent 0) CloseElement tt (calm_at b 62 t refl refl) tt) (λ _. only (is_space b) EndSpace Pass tt (λ t. (calm_space b t, tt)))

  -- what is due is a byte of a name
  abbrev pub DueByte : Option (ℕ × ℕ) → Type 0
  DueByte None = Unit {0}
  DueByte (Some next) = is_name_byte next.0 ≡ true

  end_name_turns : (o : Option (ℕ × ℕ)) → DueByte o → Turns Plain b (end_name_next o b)
  unfolding end_name_next
  end_name_turns None h = end_space_turns
  end_name_turns (Some next) h = only (b == next.0) (EndName next.1) Pass tt (λ t. (calm_name b (ap is_name_byte (eqb-true b next.0 t) ∙ h), tt))

  value_turns : (quote : ℕ) (after_cr : Bool) → (quote == 38) ≡ false → (quote == 60) ≡ false → Turns Plain b (value_next quote after_cr b)
  unfolding value_next value_plain
  value_turns quote after_cr q r =
      split (b == quote) _ _ (λ t. to AfterValue EndAttr tt (calm_at b quote t q r) tt)
      (λ _. split (b == 60) _ _ (λ _. dead)
      (λ l. split (b == 38) _ _ (λ t. record { tells = (eqb-true b 38 t, tt, refl, (q, r)) })
      (λ m. split (b == 10 && after_cr) _ _ (λ _. to (InValue quote false) Pass (q, r) (m, l) tt)
      (λ _. split (b == 13) _ _ (λ _. to (InValue quote true) (ValueChar 32) (q, r) (m, l) tt)
      (λ _. split (b == 10 || b == 9) _ _ (λ _. to (InValue quote false) (ValueChar 32) (q, r) (m, l) tt)
      (λ _. only (is_char_byte b) (InValue quote false) ValueByte (q, r) (λ _. ((m, l), tt))))))))

  pub place_turns : (place : Place) (a : Around) (o : Option (ℕ × ℕ)) → DueByte o → QuoteOf place → Turns (place_phase place) b (place_next place a o b)
  unfolding place_next stanza_start_next section_word_next section_next tag_name_next tag_space_next tag_slash_next attr_name_next attr_equals_next attr_quote_next after_value_next
  place_turns Start a o d q = before_turns Start a o refl
  place_turns First a o d q = before_turns First a o refl
  place_turns (DeclarationWord count) a o d q = before_turns (DeclarationWord count) a o refl
  place_turns (Declaration after_mark) a o d q = before_turns (Declaration after_mark) a o refl
  place_turns Prolog a o d q = before_turns Prolog a o refl
  place_turns (BodyWord count) a o d q = before_turns (BodyWord count) a o refl
  place_turns StanzaStart a o d q = only (b == 60) Opened Pass tt (λ t. (eqb-true b 60 t, tt))
  place_turns (InContent count) a o d q = content_turns count a
  place_turns Opened a o d q = opened_turns a
  place_turns (SectionWord count) a o d q =
      split (nat_lt count 6) _ _
      (λ t. only (b == section_letter count) (SectionWord (count + 1)) Pass tt (λ u. ((ltb-true count 6 t, refl, eqb-true b (section_letter count) u), tt)))
      (λ t. only (b == 91) (InSection 0) Pass tt (λ u. ((ltb-false count 6 t, eqb-true b 91 u, refl), tt)))
  place_turns (InSection count) a o d q =
      split (b == 93) _ _ (λ t. to (InSection (more_brackets count)) Pass tt (inl (eqb-true b 93 t, refl)) tt)
      (λ n. split (b == 62 && count == 2) _ _
      (λ t. let p = and_parts (b == 62) (count == 2) t in to (InContent 0) Pass tt (eqb-true b 62 p.0, eqb-true count 2 p.1) tt)
      (λ t. only (is_char_byte b) (InSection 0) Pass tt (λ _. (inr (n, t, refl), tt))))
  place_turns (EndName count) a o d q = end_name_turns o d
  place_turns EndSpace a o d q = end_space_turns
  place_turns TagName a o d q = split (is_name_byte b) _ _ (λ t. to TagName GrowName tt (calm_name b t) t) (λ _. ends_name Plain (λ c. c))
  place_turns TagSpace a o d q =
      split (b == 47) _ _ (λ t. to TagSlash Pass tt (calm_at b 47 t refl refl) tt)
      (λ _. split (b == 62) _ _ (λ t. to (InContent 0) Pass tt (calm_at b 62 t refl refl) tt)
      (λ _. split (is_space b) _ _ (λ t. to TagSpace Pass tt (calm_space b t) tt)
      (λ _. only (is_name_start b) AttrName BeginName tt (λ t. (calm_name b (start_byte b t), start_byte b t)))))
  place_turns TagSlash a o d q = only (b == 62) (InContent 0) CloseElement tt (λ t. (calm_at b 62 t refl refl, tt))
  place_turns AttrName a o d q =
      split (b == 61) _ _ (λ t. to AttrQuote EndAttrName tt (calm_at b 61 t refl refl) tt)
      (λ _. split (is_space b) _ _ (λ t. to AttrEquals EndAttrName tt (calm_space b t) tt)
      (λ _. only (is_name_byte b) AttrName GrowName tt (λ t. (calm_name b t, t))))
  place_turns AttrEquals a o d q = split (b == 61) _ _ (λ t. to AttrQuote Pass tt (calm_at b 61 t refl refl) tt) (λ _. only (is_space b) AttrEquals Pass tt (λ t. (calm_space b t, tt)))
  place_turns AttrQuote a o d q =
      split (b == 39) _ _ (λ t. to (InValue 39 false) Pass (refl, refl) (calm_at b 39 t refl refl) tt)
      (λ _. split (b == 34) _ _ (λ t. to (InValue 34 false) Pass (refl, refl) (calm_at b 34 t refl refl) tt)
      (λ _. only (is_space b) AttrQuote Pass tt (λ t. (calm_space b t, tt))))
  place_turns (InValue quote after_cr) a o d q = value_turns quote after_cr q.0 q.1
  place_turns AfterValue a o d q =
      split (b == 47) _ _ (λ t. to TagSlash Pass tt (calm_at b 47 t refl refl) tt)
      (λ _. split (b == 62) _ _ (λ t. to (InContent 0) Pass tt (calm_at b 62 t refl refl) tt)
      (λ _. only (is_space b) TagSpace Pass tt (λ t. (calm_space b t, tt))))
