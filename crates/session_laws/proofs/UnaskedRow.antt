-- An answer without a reason: of a machine that answers every request at once, the law `answered` that it breaks.
use Rattle.std.proofs.Common.{◌≡◌, ℕ, true, List, [], ◌∷◌, ◌++◌, Option, Some, None, length, get_or, drop, refl, sym, ◌∙◌, ap, arith, ◌⊎◌, inl, inr}
use Rattle.std.specs.Prelude.{codes}
use Rattle.body_writer.specs.Answer.{answer_text}
use Rattle.session_core.specs.declared.outward.Front.TheVariants.{OfStanzas}
use Rattle.session_core.specs.declared.outward.Outward.{Outward}
use Rattle.session_core.specs.Answers.{has_reason, with_answer, answer_parts, front_for}
use Rattle.session_core.specs.Machine.{opened, copy_now}
use Rattle.session_core.specs.Processed.{Processed}
use Rattle.session_core.specs.State.{PlainSession, Answered, Stands}
use Rattle.session_core.proofs.RowTools.{opening, empty, bodies_compute}
use Rattle.session_laws.specs.Answering.{WasGiven}
use Rattle.session_laws.proofs.Steadily.{is_none}
use Rattle.session_laws.proofs.Tests.{true_false, which}

-- one request is held, and nothing asks for its answer
abbrev asking : Processed
asking = record { copy = copy_now (opened opening) (empty 1001) (codes "<body/>"); running = 0 ∷ []; opened = None }

abbrev held_one : PlainSession
held_one = record (opened opening) { placings = Stands asking.copy ∷ []; processed = asking ∷ [] }

-- it is answered all the same
abbrev unasked : PlainSession
unasked = with_answer held_one asking (OfStanzas [])

abbrev answer_of : List Answered → Answered
answer_of [] = held_one.created
answer_of (answer ∷ given) = answer

-- the session as it may have been then
abbrev as_it_was : PlainSession → List Outward → Option (ℕ × ℕ) → PlainSession
as_it_was e given due = record e {
  creation = held_one.creation;
  terms = held_one.terms;
  created = held_one.created;
  processed = asking ∷ [];
  answered = [];
  given = given;
  now = 0;
  ending = None;
  reporting = record e.reporting { due = due };
}

it_was : (e : PlainSession) (given : List Outward) (due : Option (ℕ × ℕ)) → e.creation ≡ held_one.creation → e.terms ≡ held_one.terms → e.created ≡ held_one.created → e.processed ≡ asking ∷ [] → e.answered ≡ [] → e.given ≡ given → e.now ≡ 0 → e.ending ≡ None → e.reporting.due ≡ due
    → e ≡ as_it_was e given due
it_was e given due creation terms created processed answered given_is now ending due_is =
    ap (λ x. record e { creation = x }) creation
    ∙ ap (λ x. record e { creation = held_one.creation; terms = x }) terms
    ∙ ap (λ x. record e { creation = held_one.creation; terms = held_one.terms; created = x }) created
    ∙ ap (λ x. record e { creation = held_one.creation; terms = held_one.terms; created = held_one.created; processed = x }) processed
    ∙ ap (λ x. record e { creation = held_one.creation; terms = held_one.terms; created = held_one.created; processed = asking ∷ []; answered = x }) answered
    ∙ ap (λ x. record e { creation = held_one.creation; terms = held_one.terms; created = held_one.created; processed = asking ∷ []; answered = []; given = x }) given_is
    ∙ ap (λ x. record e { creation = held_one.creation; terms = held_one.terms; created = held_one.created; processed = asking ∷ []; answered = []; given = given; now = x }) now
    ∙ ap (λ x. record e { creation = held_one.creation; terms = held_one.terms; created = held_one.created; processed = asking ∷ []; answered = []; given = given; now = 0; ending = x }) ending
    ∙ ap (λ x. record e { creation = held_one.creation; terms = held_one.terms; created = held_one.created; processed = asking ∷ []; answered = []; given = given; now = 0; ending = None; reporting = record e.reporting { due = x } }) due_is

-- the front of a list of one
front_of_one : {X : Type 0} (x : X) (xs later : List X) → x ∷ [] ≡ xs ++ later → (xs ≡ []) ⊎ (xs ≡ x ∷ [])
front_of_one x [] later is = inl refl
front_of_one x (y ∷ []) later is =
    let same : x ≡ y = cc in
    inr (ap (λ z. z ∷ []) (sym same))
front_of_one x (y ∷ z ∷ xs) later is = absurd (cc)

not_nothing : {X : Type 0} (x : X) (xs : List X) → [] ≡ x ∷ xs → ⊥
not_nothing x xs is = cc

-- without a report nothing asks
none_asks : (e : PlainSession) (given : List Outward) → (given ≡ []) ⊎ (given ≡ held_one.given) → has_reason (as_it_was e given None) ≡ true → ⊥
unfolding bodies_compute
none_asks e given which_given reason = elim which_given [
  | inl nothing ↦ true_false (sym reason ∙ ap (λ g. has_reason (as_it_was e g None)) nothing)
  | inr all ↦ true_false (sym reason ∙ ap (λ g. has_reason (as_it_was e g None)) all)
]

-- and with one, the answer would tell of it
none_told : (e : PlainSession) (given : List Outward) (due : ℕ × ℕ) → (answer_of unasked.answered).bytes ≡ answer_text (answer_parts (as_it_was e given (Some due)) asking (OfStanzas [])) → ⊥
unfolding bodies_compute
none_told e given due is =
    let differs : 47 ≡ 32 = ap (λ bytes. get_or bytes 49 0) is in
    absurd (omega (arith, differs))

an_answer_without_a_reason : WasGiven unasked 0 (answer_of unasked.answered) → ⊥
an_answer_without_a_reason w =
    let e : PlainSession = w.earlier in
    let processed : e.processed ≡ asking ∷ [] = elim (front_of_one asking e.processed (w.processed).0 (w.processed).1) [
      | inl nothing ↦ absurd (not_nothing w.oldest w.later (ap (drop 0) (sym nothing) ∙ ap (λ l. drop (length l) e.processed) (sym w.answered) ∙ w.held_is))
      | inr one ↦ one
    ] in
    let held_is : asking ∷ [] ≡ w.oldest ∷ w.later = sym processed ∙ ap (λ l. drop (length l) e.processed) (sym w.answered) ∙ w.held_is in
    let oldest : asking ≡ w.oldest = head_is asking w.oldest [] w.later held_is in
    let given : (e.given ≡ []) ⊎ (e.given ≡ held_one.given) = front_of_one _ e.given (w.given).0 (w.given).1 in
    let now : e.now ≡ 0 = sym (ap (λ (a : Answered). a.moment) w.answer_is) in
    let front : front_for e w.oldest ≡ OfStanzas [] = sym (ap (λ (a : Answered). a.front) w.answer_is) in
    let bytes : (answer_of unasked.answered).bytes ≡ answer_text (answer_parts e asking (OfStanzas [])) =
    ap (λ (a : Answered). a.bytes) w.answer_is ∙ ap (λ f. answer_text (answer_parts e w.oldest f)) front ∙ ap (λ (x : Processed). answer_text (answer_parts e x (OfStanzas []))) (sym oldest) in
    elim (which e.reporting.due) [
      | inl no_due ↦
          none_asks e e.given given (ap has_reason (sym (it_was e e.given None (w.told).0 (w.told).1 (w.told).2 processed w.answered refl now (is_none e.ending w.goes_on) no_due)) ∙ w.reason)
      | inr due ↦
          none_told e e.given due.0 (bytes ∙ ap (λ (u : PlainSession). answer_text (answer_parts u asking (OfStanzas []))) (it_was e e.given (Some due.0) (w.told).0 (w.told).1 (w.told).2 processed w.answered refl now (is_none e.ending w.goes_on) due.1))
    ]
  where
    head_is : (x y : Processed) (xs ys : List Processed) → x ∷ xs ≡ y ∷ ys → x ≡ y
    head_is x y xs ys is = cc
