-- The row of the table that a refusal for its place stands in.
use Rattle.std.proofs.Common.{◌≡◌, ◌∙◌, ℕ, Bool, true, false, List, [], ◌∷◌, ◌++◌, length, take, refl, sym, ap, subst, arith}
use Rattle.std.specs.Prelude.{◌↔◌, Option, None, Some, Result, Ok, Err, MatchResult, if◌then◌else◌}
use Rattle.std.proofs.Math.Seq.{take-append_seam}
use Rattle.std.proofs.lemmas.List.{length-append}
use Rattle.body_cutter.specs.declared.parts.Cut.{Cut}
use Rattle.body_cutter.specs.declared.parts.CutRefusal.{CutRefusal}
use Rattle.body_cutter.specs.declared.parts.CutRefusal.TheVariants.{TooLong, NotUtf8, NotBody, Forbidden, Malformed, TooManyAttributes, TooManyChildren, TooDeep}
use Rattle.body_cutter.specs.Reader.{State}
use Rattle.body_cutter.specs.Refusal.{Reading, Ended, Stopped, reading, is_accepted, is_complete, is_before_body, is_forbidden, read_answer, refusal_or, ended_refusal, limit_refusal, stopped_refusal}
use Rattle.body_cutter.specs.Completion.{completion}
use Rattle.body_cutter.specs.Viable.{IsLongestViable, IsForbiddenAfter, Row, is_for_place}
use Rattle.body_cutter.proofs.Stops.{stops}
use Rattle.body_cutter.proofs.CompletionViable.{read_before, stopped_longest, ended_longest}

true_false : {P : Type 0} (b : Bool) → b ≡ true → b ≡ false → P
true_false true e f = absurd (cc)
true_false false e f = absurd (cc)

-- the byte after a front is one
byte_after : (front : List ℕ) (b c : ℕ) (xs ys : List ℕ) → front ++ (b ∷ xs) ≡ front ++ (c ∷ ys) → b ≡ c
byte_after [] b c xs ys e = cc
byte_after (x ∷ front) b c xs ys e = byte_after front b c xs ys (cc)

take_all : (xs : List ℕ) → take (length xs) xs ≡ xs
take_all [] = refl
take_all (x ∷ xs) = ap (λ (ys : List ℕ). x ∷ ys) (take_all xs)

-- for the texts P that the reader takes from a start, where Fits and the facts of a forbidden byte are told by its states
module _ (P Fits : List ℕ → Type 0) (start : State) (takes : (text : List ℕ) → P text → is_accepted (reading 0 start text) ≡ true) (completes : (front : List ℕ) (s : State) → reading 0 start front ≡ Ended s → P (front ++ completion s))
    (named : (front : List ℕ) (s : State) → reading 0 start front ≡ Ended s → (is_before_body s.place ≡ false) ↔ Fits front)
    (forbids : (front : List ℕ) (s : State) (b : ℕ) → reading 0 start front ≡ Ended s → is_before_body s.place ≡ false → (is_forbidden front s b ≡ true) ↔ IsForbiddenAfter Fits front b) (text : List ℕ) where
  -- what an answer says
  abbrev Rowed : Result Cut CutRefusal → Type 0
  Rowed answer = (refusal : CutRefusal) → answer ≡ Err refusal → is_for_place refusal ≡ true → Row P Fits text refusal

  rowed_err : (r : CutRefusal) → (is_for_place r ≡ true → Row P Fits text r) → Rowed (Err r)
  rowed_err r f refusal e p = let s : r ≡ refusal = same (Err r) (Err refusal) e in subst (λ (x : CutRefusal). Row P Fits text x) s (f (ap is_for_place s ∙ p))
    where
      same : (x y : Result Cut CutRefusal) → x ≡ y → MatchResult x (λ _. Unit {0}) (λ r. MatchResult y (λ _. Unit {0}) (λ s. r ≡ s))
      same (Ok a) y h = tt
      same (Err r) (Ok a) h = tt
      same (Err r) (Err s) h = cc

  rowed_ok : (cut : Cut) → Rowed (Ok cut)
  rowed_ok cut refusal e p = absurd (never e)
    where
      never : Ok cut ≡ Err refusal → ⊥
      never h = cc

  no_row : {r : CutRefusal} → false ≡ true → Row P Fits text r
  no_row e = absurd (cc)

  stopped_by : (at b : ℕ) (s : State) (rest : List ℕ) (before bad : Bool) → IsLongestViable P at text → text ≡ take at text ++ (b ∷ rest) → reading 0 start (take at text) ≡ Ended s → is_before_body s.place ≡ before → is_forbidden (take at text) s b ≡ bad →
      Rowed (Err (if before then NotBody else if bad then Forbidden at else Malformed at))
  stopped_by at b s rest true bad l t r e f = rowed_err NotBody (λ _. Row.no_body l (λ n. true_false (is_before_body s.place) e ((named (take at text) s r).1 n)))
  stopped_by at b s rest false true l t r e f =
      rowed_err (Forbidden at) (λ _. Row.forbidden b rest l ((named (take at text) s r).0 e) t ((forbids (take at text) s b r e).0 f))
  stopped_by at b s rest false false l t r e f =
      rowed_err (Malformed at) (λ _. Row.malformed l ((named (take at text) s r).0 e)
      (λ c ys u g. true_false (is_forbidden (take at text) s b)
      ((forbids (take at text) s b r e).1 (subst (λ (x : ℕ). IsForbiddenAfter Fits (take at text) x) (sym (byte_after (take at text) b c rest ys (sym t ∙ u))) g)) f))

  limits_rowed : (attributes children deep : Bool) (cut : Cut) → Rowed (refusal_or (if attributes then Some TooManyAttributes else if children then Some TooManyChildren else if deep then Some TooDeep else None) cut)
  limits_rowed true children deep cut = rowed_err TooManyAttributes no_row
  limits_rowed false true deep cut = rowed_err TooManyChildren no_row
  limits_rowed false false true cut = rowed_err TooDeep no_row
  limits_rowed false false false cut = rowed_ok cut

  past_end : (b : ℕ) (rest : List ℕ) → text ≡ take (length text) text ++ (b ∷ rest) → ⊥
  past_end b rest e = omega (arith, ap length e, length-append (take (length text) text) (b ∷ rest), ap length (take_all text))

  ended_by : (s : State) (before complete : Bool) (limits : Option CutRefusal) (cut : Cut) → Rowed (refusal_or limits cut) → IsLongestViable P (length text) text → reading 0 start (take (length text) text) ≡ Ended s → is_before_body s.place ≡ before →
      Rowed (refusal_or (if before then Some NotBody else if complete then limits else Some (Malformed (length text))) cut)
  ended_by s true complete limits cut k l r e = rowed_err NotBody (λ _. Row.no_body l (λ n. true_false (is_before_body s.place) e ((named (take (length text) text) s r).1 n)))
  ended_by s false true limits cut k l r e = k
  ended_by s false false limits cut k l r e =
      rowed_err (Malformed (length text)) (λ _. Row.malformed l ((named (take (length text) text) s r).0 e) (λ b rest u g. past_end b rest u))

  stopped_rowed : (at b : ℕ) (s : State) → reading 0 start text ≡ Stopped at b s → Rowed (Err (stopped_refusal text at b s))
  unfolding stopped_refusal
  stopped_rowed at b s h =
      let k = stops text 0 start at b s h in
      let len : length k.0 ≡ at = omega (arith, k.3) in
      let front : take at text ≡ k.0 = ap (λ (n : ℕ). take n text) (sym len) ∙ ap (take (length k.0)) k.2 ∙ take-append_seam k.0 (b ∷ k.1) in
      stopped_by at b s k.1 (is_before_body s.place) (is_forbidden (take at text) s b) (stopped_longest P start takes completes text at b s h)
      (k.2 ∙ ap (λ (xs : List ℕ). xs ++ (b ∷ k.1)) (sym front))
      (ap (reading 0 start) front ∙ read_before b s [] k.0 0 at start k.3 (k.4 [])) refl refl

  read_rowed : (r : Reading) → reading 0 start text ≡ r → Rowed (read_answer text r)
  unfolding read_answer ended_refusal limit_refusal
  read_rowed (Stopped at b s) e = stopped_rowed at b s e
  read_rowed (Ended s) e =
      ended_by s (is_before_body s.place) (is_complete s) _ _ (limits_rowed s.too_many_attributes _ s.too_deep _) (ended_longest P start takes completes text s e)
      (ap (reading 0 start) (take_all text) ∙ e) refl

  within_rowed : (long utf8 : Bool) (answer : Result Cut CutRefusal) → Rowed answer → Rowed (if long then Err TooLong else if utf8 then answer else Err NotUtf8)
  within_rowed true utf8 answer h = rowed_err TooLong no_row
  within_rowed false true answer h = h
  within_rowed false false answer h = rowed_err NotUtf8 no_row

  pub answer_rowed : (long utf8 : Bool) → Rowed (if long then Err TooLong else if utf8 then read_answer text (reading 0 start text) else Err NotUtf8)
  answer_rowed long utf8 = within_rowed long utf8 _ (read_rowed (reading 0 start text) refl)
