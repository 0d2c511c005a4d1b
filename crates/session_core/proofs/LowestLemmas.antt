-- The least id whose answer is kept.
use Rattle.std.proofs.Common.{◌≡◌, ◌≢◌, ℕ, ◌+◌, ◌<◌, ◌≤◌, ◌==◌, ◌&&◌, ◌⊎◌, inl, inr, nat_lt, Bool, true, false, cond, List, [], ◌∷◌, map, length, Option, Some, None, refl, sym, ◌∙◌, ap, arith, add-one}
use Rattle.std.specs.Prelude.{is_some, if◌then◌else◌}
use Rattle.std.specs.List.{find}
use Rattle.std.specs.Option.{option_map, unwrap_or}
use Rattle.std.proofs.lemmas.Bool.{cases_lt}
use Rattle.std.proofs.lemmas.Bool.Decides.{nat_tests}
use Rattle.bosh_types.specs.ById.{at_id}
use Rattle.bosh_types.specs.Rid.{greatest_rid}
use Rattle.bosh_types.specs.declared.kept.KeptAnswer.{KeptAnswer}
use Rattle.reply_keep.specs.PlainKeep.{IsLowestKept, last_id}
use Rattle.session_core.specs.declared.session.Session.{Session}
use Rattle.session_core.specs.Kept.{keep_of, kept_answer, kept_of, lowest_kept}
use Rattle.session_core.specs.StandsFor.{AreFrom, Holds}
use Rattle.session_core.specs.State.{PlainSession, Answered, answers, answered_of, first_of}
use Rattle.session_core.proofs.AnsweredLemmas.{answers_end}

abbrev found : PlainSession → List Answered → Option (ℕ × KeptAnswer)
found plain answers = find (λ pair. is_some (kept_of plain pair.0)) (map kept_answer answers)

skipped : {T : Type 0} (b : Bool) (x : T) (rest : Option T) → b ≡ false → cond b (Some x) rest ≡ rest
skipped true x rest is = absurd (cc)
skipped false x rest is = refl

taken : {T : Type 0} (b : Bool) (x : T) (rest : Option T) → b ≡ true → cond b (Some x) rest ≡ Some x
taken true x rest is = refl
taken false x rest is = absurd (cc)

-- none of these is kept
found_none : (plain : PlainSession) (answers : List Answered) → ((rid : ℕ) → kept_of plain rid ≡ None) → found plain answers ≡ None
found_none plain [] none = refl
found_none plain (answer ∷ answers) none =
    skipped (is_some (kept_of plain answer.rid)) (kept_answer answer) (found plain answers) (ap is_some (none answer.rid)) ∙ found_none plain answers none

-- the first that is kept is the lowest
found_lowest : (plain : PlainSession) (rid lowest : ℕ) (answers : List Answered) → AreFrom (λ answer. answer.rid) rid answers → rid ≤ lowest → lowest < rid + length answers
    → is_some (kept_of plain lowest) ≡ true → ((lower : ℕ) → lower < lowest → kept_of plain lower ≡ None) → option_map (λ pair. pair.0) (found plain answers) ≡ Some lowest
found_lowest plain rid lowest [] are from within kept none = absurd (omega arith)
found_lowest plain rid lowest (answer ∷ answers) are from within kept none = elim (cases_lt rid lowest) [
  | inl more ↦
      ap (option_map (λ pair. pair.0)) (skipped (is_some (kept_of plain answer.rid)) (kept_answer answer) (found plain answers) (ap (λ (n : ℕ). is_some (kept_of plain n)) are.0 ∙ ap is_some (none rid more)))
      ∙ found_lowest plain (rid + 1) lowest answers are.1 (omega arith) (omega (arith, add-one (length answers))) kept none
  | inr here ↦ (
      let same : answer.rid ≡ lowest = omega (arith, are.0) in
      ap (option_map (λ pair. pair.0)) (taken (is_some (kept_of plain answer.rid)) (kept_answer answer) (found plain answers) (ap (λ (n : ℕ). is_some (kept_of plain n)) same ∙ kept))
      ∙ ap Some same)
]

at_none : (rid id : ℕ) (answers : List Answered) → AreFrom (λ answer. answer.rid) rid answers → (id < rid) ⊎ (rid + length answers ≤ id) → at_id (map kept_answer answers) id ≡ None
at_none rid id [] are apart = refl
at_none rid id (answer ∷ answers) are apart =
    passed (answer.rid) id (kept_answer answer).1 (at_id (map kept_answer answers) id) (λ same. differs apart same) ∙ at_none (rid + 1) id answers are.1 (further apart)
  where
    passed : (a b : ℕ) (x : KeptAnswer) (rest : Option KeptAnswer) → a ≢ b → cond (a == b) (Some x) rest ≡ rest
    passed a b x rest apart = grind (arith, nat_tests)

    differs : (id < rid) ⊎ (rid + length (answer ∷ answers) ≤ id) → answer.rid ≡ id → ⊥
    differs (inl below) same = absurd (omega (arith, are.0))
    differs (inr above) same = absurd (omega (arith, are.0))

    further : (id < rid) ⊎ (rid + length (answer ∷ answers) ≤ id) → (id < rid + 1) ⊎ (rid + 1 + length answers ≤ id)
    further (inl below) = inl (omega arith)
    further (inr above) = inr (omega (arith, add-one (length answers)))

found_here : (a b : ℕ) (x : KeptAnswer) (rest : Option KeptAnswer) → a ≡ b → cond (a == b) (Some x) rest ≡ None → ⊥
found_here a b x rest same none = grind (arith, nat_tests)

not_later : (a b : ℕ) (x : KeptAnswer) (rest : Option KeptAnswer) → cond (a == b) (Some x) rest ≡ None → rest ≡ None
not_later a b x rest none = grind (arith, nat_tests)

-- each id up to the last one has an answer
at_within : (rid id : ℕ) (answers : List Answered) → AreFrom (λ answer. answer.rid) rid answers → rid ≤ id → id < rid + length answers → at_id (map kept_answer answers) id ≡ None → ⊥
at_within rid id [] are from within none = absurd (omega arith)
at_within rid id (answer ∷ answers) are from within none = elim (cases_lt rid id) [
  | inl more ↦
      at_within (rid + 1) id answers are.1 (omega arith) (omega (arith, add-one (length answers)))
      (not_later answer.rid id (kept_answer answer).1 (at_id (map kept_answer answers) id) none)
  | inr here ↦ found_here answer.rid id (kept_answer answer).1 (at_id (map kept_answer answers) id) (omega (arith, are.0)) none
]

-- an id whose answer is kept was answered
kept_some : (plain : PlainSession) (id : ℕ) → is_some (kept_of plain id) ≡ true → is_some (at_id (map kept_answer (answers plain)) id) ≡ true
kept_some plain id kept = by (nat_lt plain.acknowledged id && nat_lt (last_id (map kept_answer (answers plain))) (id + (plain.terms.requests + 1))) kept
  where
    by : (b : Bool) → is_some (if b then at_id (map kept_answer (answers plain)) id else None) ≡ true → is_some (at_id (map kept_answer (answers plain)) id) ≡ true
    by true kept = kept
    by false kept = absurd (cc)

kept_range : (plain : PlainSession) (id : ℕ) → AreFrom (λ answer. answer.rid) (first_of plain) (answers plain) → is_some (kept_of plain id) ≡ true → (first_of plain ≤ id) × (id < first_of plain + length (answers plain))
kept_range plain id are kept = elim (cases_lt id (first_of plain)) [
  | inl below ↦ absurd (no (at_none (first_of plain) id (answers plain) are (inl below)))
  | inr from ↦ elim (cases_lt id (first_of plain + length (answers plain))) [
    | inl within ↦ (from, within)
    | inr above ↦ absurd (no (at_none (first_of plain) id (answers plain) are (inr above)))
  ]
]
  where
    no : at_id (map kept_answer (answers plain)) id ≡ None → ⊥
    no none = let e : true ≡ false = sym (kept_some plain id kept) ∙ ap is_some none in absurd (cc)

module _ {s : Session} {plain : PlainSession} (h : Holds s plain) where
  pub lowest_some : (lowest : ℕ) → IsLowestKept (keep_of plain) (Some lowest) → lowest ≡ lowest_kept plain
  lowest_some lowest is =
      let kept : is_some (kept_of plain lowest) ≡ true = is.0 in
      let range = kept_range plain lowest h.kept.ids kept in
      sym (ap (λ (o : Option ℕ). unwrap_or o (answered_of plain + 1)) (found_lowest plain (first_of plain) lowest (answers plain) h.kept.ids range.0 range.1 kept is.1))

  pub lowest_next : (next : ℕ) → IsLowestKept (keep_of plain) None → next ≡ s.answered + 1 → next ≡ lowest_kept plain
  lowest_next next none is =
      is ∙ ap (λ (n : ℕ). n + 1) h.run.answered_is
      ∙ sym (ap (λ (o : Option (ℕ × KeptAnswer)). unwrap_or (option_map (λ pair. pair.0) o) (answered_of plain + 1)) (found_none plain (answers plain) none))

  -- the answer of the greatest id is always kept
  pub lowest_end : IsLowestKept (keep_of plain) None → greatest_rid ≤ s.answered → ⊥
  lowest_end none end =
      let last : last_id (map kept_answer (answers plain)) ≡ answered_of plain = answers_end (first_of plain) plain.created plain.answered h.kept.ids in
      let acked : nat_lt plain.acknowledged (answered_of plain) ≡ true = grind (arith, nat_tests, h.kept.acked, h.run.answered_is) in
      let recent : nat_lt (last_id (map kept_answer (answers plain))) (answered_of plain + (plain.terms.requests + 1)) ≡ true = grind (arith, nat_tests, last) in
      let here : kept_of plain (answered_of plain) ≡ at_id (map kept_answer (answers plain)) (answered_of plain) =
      (λ i. if acked i && recent i then at_id (map kept_answer (answers plain)) (answered_of plain) else None) in
      at_within (first_of plain) (answered_of plain) (answers plain) h.kept.ids (omega arith) (omega (arith, add-one (length plain.answered))) (sym here ∙ none (answered_of plain))
