-- Which answers are kept, by arithmetic on ids.
use Rattle.std.proofs.Common.{◌≡◌, ℕ, ◌+◌, ◌<◌, ◌≤◌, ◌⊎◌, inl, inr, Bool, true, false, ◌&&◌, cond, nat_lt, min, max, List, [], ◌∷◌, ◌++◌, Option, None, refl, sym, ◌∙◌, ap, arith}
use Rattle.std.proofs.lemmas.Bool.{cases_lt}
use Rattle.std.proofs.lemmas.Bool.Decides.{nat_tests}
use Rattle.bosh_types.specs.declared.kept.KeptAnswer.{KeptAnswer}
use Rattle.reply_keep.specs.PlainKeep.{IsNextId, last_after, last_id}

-- the id of the last pair
pub last_after-push : (rid id : ℕ) (pairs : List (ℕ × KeptAnswer)) (answer : KeptAnswer) → last_after id (pairs ++ (rid, answer) ∷ []) ≡ rid
last_after-push rid id [] answer = refl
last_after-push rid id (pair ∷ pairs) answer = last_after-push rid pair.0 pairs answer

-- the next id follows the last one, unless nothing was put
pub next_cases : (pairs : List (ℕ × KeptAnswer)) (rid : ℕ) → IsNextId pairs rid → (last_id pairs ≡ 0) ⊎ (rid ≡ last_id pairs + 1)
next_cases [] rid next = inl refl
next_cases (pair ∷ pairs) rid next = inr next

-- the test of `kept_at`, for whatever stands at the id
module _ (acknowledged last size rid : ℕ) (found : Option KeptAnswer) where
  pub kept_in : acknowledged < rid → last < rid + size → cond (nat_lt acknowledged rid && nat_lt last (rid + size)) found None ≡ found
  kept_in above recent = grind (arith, nat_tests)

  pub kept_low : rid ≤ acknowledged → cond (nat_lt acknowledged rid && nat_lt last (rid + size)) found None ≡ None
  kept_low low = grind (arith, nat_tests)

  pub kept_old : rid + size ≤ last → cond (nat_lt acknowledged rid && nat_lt last (rid + size)) found None ≡ None
  kept_old old = grind (arith, nat_tests)

pub none_either_way : (b : Bool) → cond {A = Option KeptAnswer} b None None ≡ None
none_either_way true = refl
none_either_way false = refl

-- what was never put isn't kept
pub kept_absent : (b : Bool) (found : Option KeptAnswer) → found ≡ None → cond b found None ≡ None
kept_absent b found none = ap (λ o. cond b o None) none ∙ none_either_way b

-- an acknowledgement of lower ids changes nothing
pub kept_above : (acknowledged last size rid ack : ℕ) (found : Option KeptAnswer) → ack < rid → cond (nat_lt (max acknowledged (min ack last)) rid && nat_lt last (rid + size)) found None ≡ cond (nat_lt acknowledged rid && nat_lt last (rid + size)) found None
kept_above acknowledged last size rid ack found above = elim (cases_lt acknowledged rid) [
  | inl in_range ↦ elim (cases_lt last (rid + size)) [
    | inl recent ↦ kept_in (max acknowledged (min ack last)) last size rid found (omega arith) recent ∙ sym (kept_in acknowledged last size rid found in_range recent)
    | inr old ↦ kept_old (max acknowledged (min ack last)) last size rid found old ∙ sym (kept_old acknowledged last size rid found old)
  ]
  | inr low ↦ kept_low (max acknowledged (min ack last)) last size rid found (omega arith) ∙ sym (kept_low acknowledged last size rid found low)
]

-- the last id before this one was put, if any was
pub IsNextId_from : (pairs : List (ℕ × KeptAnswer)) (rid : ℕ) → (pairs ≡ []) ⊎ (rid ≡ last_id pairs + 1) → IsNextId pairs rid
IsNextId_from [] rid next = tt
IsNextId_from (pair ∷ pairs) rid (inl none) = absurd (cc)
IsNextId_from (pair ∷ pairs) rid (inr next) = next
