-- The scan of a head is due at each byte that ends one.
use Rattle.std.proofs.Common.{◌≡◌, ℕ, ◌+◌, ◌<◌, ◌⊎◌, ◌==◌, ◌||◌, not, Bool, true, false, if◌then◌else◌, List, [], ◌∷◌, ◌++◌, length, take, get_or, inl, inr, refl, sym, ◌∙◌, ap, subst, arith, append_assoc, length-append}
use Rattle.std.proofs.Math.Seq.{take-append_seam}
use Rattle.std.proofs.lemmas.Bool.Decides.{nat_tests}
use Rattle.std.proofs.lemmas.List.{take_more, take-append-le}
use Rattle.httparse.specs.Grammar.{is_token_byte, is_uri_byte, is_value_byte}
use Rattle.bosh_http.specs.declared.scan.Place.{Place}
use Rattle.bosh_http.specs.declared.scan.Place.TheVariants.{Before, BeforeReturn, MethodStart, Method, Target, Line, LineStart, Name, Value, Return, Anywhere}
use Rattle.bosh_http.specs.Scanning.{fine, value_step, line_step, within_step, step_of, is_within, is_at_line, is_anywhere, is_text_byte, has_text, EndsHead, Went, Scans, NoHeadEnds}

true_false : {P : Type 0} (b : Bool) → b ≡ true → b ≡ false → P
true_false true e f = absurd (cc)
true_false false e f = absurd (cc)

-- ---- one step

either_within : (c : Bool) (x y : Place × Bool) → is_within x.0 ≡ true → is_within y.0 ≡ true → is_within (if c then x else y).0 ≡ true
either_within true x y a b = a
either_within false x y a b = b

fine_within : (c : Bool) (place : Place) → is_within place ≡ true → is_within (fine c place).0 ≡ true
unfolding fine
fine_within c place a = either_within c (place, false) (Anywhere, true) a refl

value_within : (b : ℕ) → is_within (value_step b).0 ≡ true
unfolding value_step
value_within b = either_within (b == 13) _ _ refl (either_within (b == 10) _ _ refl (fine_within (is_value_byte b) Value refl))

-- what is within stays so
within_is : (place : Place) (b : ℕ) → is_within (within_step place b).0 ≡ true
unfolding within_step line_step
within_is Before b = refl
within_is BeforeReturn b = refl
within_is MethodStart b = fine_within (is_token_byte b) Method refl
within_is Method b = either_within (b == 32) _ _ refl (fine_within (is_token_byte b) Method refl)
within_is Target b = either_within (b == 32) _ _ refl (fine_within (is_uri_byte b) Target refl)
within_is (Line left) b = either_within (b == 10) _ _ refl (either_within (b == 13) _ _ refl (either_within (left == 0) _ _ (value_within b) refl))
within_is LineStart b = fine_within (is_token_byte b) Name refl
within_is Name b = either_within (b == 58) _ _ refl (fine_within (is_token_byte b) Name refl)
within_is Value b = value_within b
within_is Return b = fine_within (b == 10) LineStart refl
within_is Anywhere b = refl

-- a LF ends a line
line_is : (place : Place) → is_within place ≡ true → is_at_line (within_step place 10).0 ≡ true
unfolding within_step line_step value_step fine is_token_byte
line_is Before h = absurd (true_false true refl (sym h))
line_is BeforeReturn h = absurd (true_false true refl (sym h))
line_is MethodStart h = refl
line_is Method h = refl
line_is Target h = refl
line_is (Line left) h = refl
line_is LineStart h = refl
line_is Name h = refl
line_is Value h = refl
line_is Return h = refl
line_is Anywhere h = refl

-- a second one is due
ends_is : (place : Place) → is_at_line place ≡ true → (within_step place 10).1 ≡ true
unfolding within_step fine is_token_byte
ends_is LineStart h = refl
ends_is Anywhere h = refl
ends_is _ h = absurd (true_false true refl (sym h))

returns_is : (place : Place) → is_at_line place ≡ true → is_anywhere (within_step place 13).0 ≡ true
unfolding within_step fine is_token_byte
returns_is LineStart h = refl
returns_is Anywhere h = refl
returns_is _ h = absurd (true_false true refl (sym h))

anywhere_is : (place : Place) (b : ℕ) → is_anywhere place ≡ true → (within_step place b).1 ≡ true
unfolding within_step
anywhere_is Anywhere b h = refl
anywhere_is _ b h = absurd (true_false true refl (sym h))

line_within : (place : Place) → is_at_line place ≡ true → is_within place ≡ true
line_within LineStart h = refl
line_within Anywhere h = refl
line_within _ h = absurd (true_false true refl (sym h))

anywhere_within : (place : Place) → is_anywhere place ≡ true → is_within place ≡ true
anywhere_within Anywhere h = refl
anywhere_within _ h = absurd (true_false true refl (sym h))

-- within the head a step is one from the first line on
steps_within : (first place : Place) (b : ℕ) → is_within place ≡ true → step_of first place b ≡ within_step place b
unfolding step_of
steps_within first Before b h = absurd (true_false true refl (sym h))
steps_within first BeforeReturn b h = absurd (true_false true refl (sym h))
steps_within first _ b h = refl

before_text : (c d : Bool) (x y z : Place × Bool) → not (d || c) ≡ true → is_within z.0 ≡ true → is_within (if c then x else if d then y else z).0 ≡ true
before_text true true x y z h w = absurd (true_false true refl (sym h))
before_text true false x y z h w = absurd (true_false true refl (sym h))
before_text false true x y z h w = absurd (true_false true refl (sym h))
before_text false false x y z h w = w

after_return : (c d : Bool) → not (c || d) ≡ true → is_within (fine c Before).0 ≡ true
unfolding fine
after_return true d h = absurd (true_false true refl (sym h))
after_return false d h = refl

-- a byte of text begins the head
text_begins : (first place : Place) (b : ℕ) → is_text_byte b ≡ true → is_within (step_of first place b).0 ≡ true
unfolding step_of
text_begins first Before b h = before_text (b == 13) (b == 10) _ _ _ h (within_is first b)
text_begins first BeforeReturn b h = after_return (b == 10) (b == 13) h
text_begins first MethodStart b h = within_is MethodStart b
text_begins first Method b h = within_is Method b
text_begins first Target b h = within_is Target b
text_begins first (Line left) b h = within_is (Line left) b
text_begins first LineStart b h = within_is LineStart b
text_begins first Name b h = within_is Name b
text_begins first Value b h = within_is Value b
text_begins first Return b h = within_is Return b
text_begins first Anywhere b h = within_is Anywhere b

-- ---- the bytes so far, and one more

has_text-snoc : (bytes : List ℕ) (b : ℕ) → has_text (bytes ++ b ∷ []) ≡ (has_text bytes || is_text_byte b)
has_text-snoc [] b = grind arith
has_text-snoc (x ∷ bytes) b = grind (arith, has_text-snoc bytes b)

either : (c d : Bool) → (c || d) ≡ true → (c ≡ true) ⊎ (d ≡ true)
either true d h = inl refl
either false d h = inr h

last_same : (xs ys : List ℕ) (b c : ℕ) → xs ++ b ∷ [] ≡ ys ++ c ∷ [] → (xs ≡ ys) × (b ≡ c)
last_same [] [] b c e = (refl, cc)
last_same [] (y ∷ ys) b c e = absurd (omega (arith, ap length e, length-append ys (c ∷ [])))
last_same (x ∷ xs) [] b c e = absurd (omega (arith, ap length e, length-append xs (b ∷ [])))
last_same (x ∷ xs) (y ∷ ys) b c e =
    let rest = last_same xs ys b c (cc) in
    let head : x ≡ y = cc in
    let tail : xs ≡ ys = rest.0 in
    (cc, rest.1)

two_last : (front : List ℕ) (a b : ℕ) → front ++ a ∷ b ∷ [] ≡ (front ++ a ∷ []) ++ b ∷ []
two_last front a b = sym (append_assoc front (a ∷ []) (b ∷ []))

three_last : (front : List ℕ) (a b c : ℕ) → front ++ a ∷ b ∷ c ∷ [] ≡ (front ++ a ∷ b ∷ []) ++ c ∷ []
three_last front a b c = sym (append_assoc front (a ∷ b ∷ []) (c ∷ []))

text_stays : (front : List ℕ) (b : ℕ) → has_text front ≡ true → has_text (front ++ b ∷ []) ≡ true
text_stays front b h = has_text-snoc front b ∙ rw h refl

module _ (first place : Place) (bytes : List ℕ) (b : ℕ) (went : Went bytes place) where
  went_within : is_within place ≡ true → is_within (step_of first place b).0 ≡ true
  went_within h = subst (λ (x : Place × Bool). is_within x.0 ≡ true) (sym (steps_within first place b h)) (within_is place b)

  went_begun : (has_text bytes ≡ true) ⊎ (is_text_byte b ≡ true) → is_within (step_of first place b).0 ≡ true
  went_begun (inl h) = went_within (went.begun h)
  went_begun (inr h) = text_begins first place b h

  went_line : (front : List ℕ) → bytes ++ b ∷ [] ≡ front ++ 10 ∷ [] → has_text front ≡ true → is_at_line (step_of first place b).0 ≡ true
  went_line front e h =
      let same = last_same bytes front b 10 e in
      let within : is_within place ≡ true = went.begun (ap has_text same.0 ∙ h) in
      subst (λ (x : Place × Bool). is_at_line x.0 ≡ true) (sym (steps_within first place b within))
      (subst (λ (c : ℕ). is_at_line (within_step place c).0 ≡ true) (sym same.1) (line_is place within))

  went_returns : (front : List ℕ) → bytes ++ b ∷ [] ≡ front ++ 10 ∷ 13 ∷ [] → has_text front ≡ true → is_anywhere (step_of first place b).0 ≡ true
  went_returns front e h =
      let same = last_same bytes (front ++ 10 ∷ []) b 13 (e ∙ two_last front 10 13) in
      let line : is_at_line place ≡ true = went.line front same.0 h in
      subst (λ (x : Place × Bool). is_anywhere x.0 ≡ true) (sym (steps_within first place b (line_within place line)))
      (subst (λ (c : ℕ). is_anywhere (within_step place c).0 ≡ true) (sym same.1) (returns_is place line))

  pub went_on : Went (bytes ++ b ∷ []) (step_of first place b).0
  went_on = record {
    begun = λ h. went_begun (either (has_text bytes) (is_text_byte b) (sym (has_text-snoc bytes b) ∙ h));
    line = went_line;
    returns = went_returns;
  }

  -- where a head ends, the scan is due
  pub ends_due : EndsHead (bytes ++ b ∷ []) → (step_of first place b).1 ≡ true
  ends_due (front, h, inl e) =
      let same = last_same bytes (front ++ 10 ∷ []) b 10 (e ∙ two_last front 10 10) in
      let line : is_at_line place ≡ true = went.line front same.0 h in
      subst (λ (x : Place × Bool). x.1 ≡ true) (sym (steps_within first place b (line_within place line)))
      (subst (λ (c : ℕ). (within_step place c).1 ≡ true) (sym same.1) (ends_is place line))
  ends_due (front, h, inr e) =
      let same = last_same bytes (front ++ 10 ∷ 13 ∷ []) b 10 (e ∙ three_last front 10 13 10) in
      let where_ : is_anywhere place ≡ true = went.returns front same.0 h in
      subst (λ (x : Place × Bool). x.1 ≡ true) (sym (steps_within first place b (anywhere_within place where_))) (anywhere_is place b where_)

-- before the first byte
pub went_nowhere : (place : Place) → Went [] place
went_nowhere place = record {
  begun = λ h. absurd (true_false true refl (sym h));
  line = λ front e h. absurd (omega (arith, ap length e, length-append front (10 ∷ [])));
  returns = λ front e h. absurd (omega (arith, ap length e, length-append front (10 ∷ 13 ∷ [])));
}

-- ---- the scan of the bytes of a stream

module _ (first place : Place) (seen : ℕ) (bytes : List ℕ) (d : ℕ) (within : seen < length bytes) where
  pub scans_on : Scans seen place bytes → Scans (seen + 1) (step_of first place (get_or bytes seen d)).0 bytes
  scans_on scans = record {
    within = omega (arith, within);
    went = subst (λ (xs : List ℕ). Went xs (step_of first place (get_or bytes seen d)).0) (sym (take_more bytes seen d within))
        (went_on first place (take seen bytes) (get_or bytes seen d) scans.went);
  }

  front_is : (front rest : List ℕ) → bytes ≡ front ++ rest → length front ≡ seen + 1 → front ≡ take seen bytes ++ get_or bytes seen d ∷ []
  front_is front rest e n = sym (take-append_seam front rest) ∙ ap (take (length front)) (sym e) ∙ ap (λ (m : ℕ). take m bytes) n ∙ take_more bytes seen d within

  pub none_on : (from : ℕ) → Scans seen place bytes → NoHeadEnds from seen bytes → (step_of first place (get_or bytes seen d)).1 ≡ false → NoHeadEnds from (seen + 1) bytes
  none_on from scans none quiet front rest e more less ends = cases (length front == seen + 1) refl
    where
      cases : (b : Bool) → (length front == seen + 1) ≡ b → ⊥
      cases true is =
          true_false _ (ends_due first place (take seen bytes) (get_or bytes seen d) scans.went
          (subst EndsHead (front_is front rest e (grind (arith, nat_tests, is))) ends)) quiet
      cases false is = none front rest e more (grind (arith, nat_tests, is, less)) ends

pub none_yet : (seen : ℕ) (bytes : List ℕ) → NoHeadEnds seen seen bytes
none_yet seen bytes front rest e more less ends = omega (arith, more, less)

-- more bytes change nothing
pub scans_more : (seen : ℕ) (place : Place) (bytes more : List ℕ) → Scans seen place bytes → Scans seen place (bytes ++ more)
scans_more seen place bytes more scans = record {
  within = omega (arith, scans.within, length-append bytes more);
  went = subst (λ (xs : List ℕ). Went xs place) (sym (take-append-le seen bytes more scans.within)) scans.went;
}

pub scans_none : (place : Place) (bytes : List ℕ) → Scans 0 place bytes
scans_none place bytes = record { within = omega arith; went = went_nowhere place }
