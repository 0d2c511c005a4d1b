-- What answers took, and then what waits, is what the server gave.
use Rattle.std.proofs.Common.{◌≡◌, ℕ, zero, suc, ◌+◌, List, [], ◌∷◌, ◌++◌, length, take, drop, min, refl, sym, ◌∙◌, ap, arith, append_assoc, length-append}
use Rattle.std.specs.List.{sum_by}
use Rattle.std.proofs.lemmas.List.{append-nil, drop_at, take-append-drop}
use Rattle.std.proofs.lemmas.List.Sums.{sum_by-append}
use Rattle.bosh_types.specs.Limits.{most_waiting}
use Rattle.session_core.specs.declared.outward.Front.TheVariants.{OfStanzas}
use Rattle.session_core.specs.declared.outward.Outward.{Outward}
use Rattle.session_core.specs.declared.outward.Outward.TheVariants.{Stanza, Close}
use Rattle.session_core.specs.Answers.{front_for, front_of, longest_front, fit_one_answer}
use Rattle.session_core.specs.Copy.{is_prompt}
use Rattle.session_core.specs.Machine.{opened, greeting_of}
use Rattle.session_core.specs.declared.opening.Opening.{Opening}
use Rattle.session_core.specs.Outward.{items_in}
use Rattle.session_core.specs.Processed.{Processed}
use Rattle.session_core.specs.State.{PlainSession, Answered, answers, taken_by_answers, waiting}
use Rattle.session_core.specs.Passed.{items_taken}
use Rattle.session_laws.proofs.Tests.{split}
use Rattle.session_laws.proofs.Moves.{Steady}

pub sum_by_cons : {X : Type 0} (f : X → ℕ) (x : X) (xs : List X) → sum_by f (x ∷ xs) ≡ f x + sum_by f xs
sum_by_cons f x xs = omega (arith, sum_by-append f (x ∷ []) xs)

-- they are as many as the answers count
taken_count : (given : List Answered) → taken_by_answers given ≡ length (items_taken given)
taken_count [] = refl
taken_count (answer ∷ given) =
    sum_by_cons (λ (a : Answered). length (items_in a.front)) answer given ∙ ap (λ n. length (items_in answer.front) + n) (taken_count given)
    ∙ sym (length-append (items_in answer.front) (items_taken given))

pub taken_push : (given : List Answered) (answer : Answered) → items_taken (given ++ answer ∷ []) ≡ items_taken given ++ items_in answer.front
taken_push [] answer = append-nil (items_in answer.front)
taken_push (first ∷ given) answer = ap (λ items. items_in first.front ++ items) (taken_push given answer) ∙ sym (append_assoc (items_in first.front) (items_taken given) (items_in answer.front))

-- what no answer took yet follows what answers took
abbrev pub Rest : List Answered → List Outward → Type 0
Rest given items = (rest : List Outward) × (items_taken given ++ rest ≡ items)

rest_waits : (s : PlainSession) (rest : List Outward) → items_taken (answers s) ++ rest ≡ s.given → waiting s ≡ rest
rest_waits s rest is =
    ap (λ n. drop n s.given) (taken_count (answers s)) ∙ ap (λ items. drop (length (items_taken (answers s))) items) (sym is)
    ∙ drop_at (items_taken (answers s)) rest (length (items_taken (answers s))) refl

longest_begins : (count : ℕ) (items : List Outward) → (m : ℕ) × (longest_front count items ≡ take m items)
longest_begins zero items = (0, refl)
longest_begins (suc count) items = split (λ front. (m : ℕ) × (front ≡ take m items)) (fit_one_answer (take (suc count) items)) (take (suc count) items) (longest_front count items)
    (λ fits. (suc count, refl))
    (λ fails. longest_begins count items)

-- what an answer takes are the first that wait
pub front_begins : (items : List Outward) → (rest : List Outward) × (items_in (front_of items) ++ rest ≡ items)
front_begins [] = ([], refl)
front_begins (Close stream closing ∷ items) = (items, refl)
front_begins (Stanza stream bytes ∷ items) =
    let l = longest_begins (min most_waiting (length items + 1)) (Stanza stream bytes ∷ items) in
    (drop l.0 (Stanza stream bytes ∷ items), ap (λ front. front ++ drop l.0 (Stanza stream bytes ∷ items)) l.1 ∙ take-append-drop l.0 (Stanza stream bytes ∷ items))

pub front_for_begins : (s : PlainSession) (one : Processed) → (rest : List Outward) × (items_in (front_for s one) ++ rest ≡ waiting s)
front_for_begins s one = split (λ front. (rest : List Outward) × (items_in front ++ rest ≡ waiting s)) (is_prompt one.copy) (OfStanzas []) (front_of (waiting s)) (λ prompt. (waiting s, refl)) (λ other. front_begins (waiting s))

abbrev pub IsGiven : PlainSession → Type 0
IsGiven s = Rest (answers s) s.given

given_answers : (s : PlainSession) (oldest : Processed) (answer : Answered) → front_for s oldest ≡ answer.front → IsGiven s → Rest (answers s ++ answer ∷ []) s.given
given_answers s oldest answer front given =
    let f = front_for_begins s oldest in (
      f.0,
      ap (λ items. items ++ f.0) (taken_push (answers s) answer) ∙ append_assoc (items_taken (answers s)) (items_in answer.front) f.0
          ∙ ap (λ items. items_taken (answers s) ++ items) (ap (λ fr. items_in fr ++ f.0) (sym front) ∙ f.1 ∙ rest_waits s given.0 given.1) ∙ given.1,
    )

pub given_steady : Steady IsGiven
given_steady = record {
  ends = λ t ending on p. p;
  aside = λ t tickets now last_arrival passed counted p. p;
  answers = λ t oldest later front is on reason taken p. given_answers t oldest _ taken p;
  processes = λ t copy on stands broken p. p;
  stands = λ t copy above none small p. p;
  strikes = λ t rid on is p. p;
  gives = λ t item p. (p.0 ++ item ∷ [], sym (append_assoc (items_taken (answers t)) p.0 (item ∷ [])) ∙ ap (λ items. items ++ item ∷ []) p.1);
}

pub opened_given : (o : Opening) → IsGiven (opened o)
opened_given o = ([], append-nil (items_taken (answers (opened o))) ∙ append-nil (greeting_of o))

-- so the answers took all but what waits
pub given_is : (s : PlainSession) → IsGiven s → items_taken (answers s) ++ waiting s ≡ s.given
given_is s given = ap (λ items. items_taken (answers s) ++ items) (rest_waits s given.0 given.1) ∙ given.1
