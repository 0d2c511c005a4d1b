-- The bytes that an id was given stay.
use Rattle.std.proofs.Common.{◌≡◌, ℕ, zero, suc, ◌+◌, ◌<◌, ◌≤◌, ◌==◌, ◌&&◌, Bool, true, false, List, [], ◌∷◌, ◌++◌, Option, Some, None, nat_le, nat_lt, is_some, length, map, slice_get, refl, ◌∙◌, ap, arith, cond}
use Rattle.std.specs.Option.{option_map, option_or}
use Rattle.std.proofs.lemmas.Bool.{eqb-true}
use Rattle.std.proofs.lemmas.Bool.Decides.{nat_tests}
use Rattle.std.proofs.lemmas.List.{map-append}
use Rattle.bosh_types.specs.ById.{at_id}
use Rattle.bosh_types.specs.declared.ending.Ending.{Ending}
use Rattle.bosh_types.specs.declared.kept.KeptAnswer.{KeptAnswer}
use Rattle.reply_keep.specs.PlainKeep.{last_id}
use Rattle.session_attrs.specs.declared.request.Request.{Request}
use Rattle.session_core.specs.declared.replies.Arrived.TheVariants as arrivals
use Rattle.session_core.specs.Endings.{last_word}
use Rattle.session_core.specs.Journal.{Entry, IsMade, after_entry, after_entries}
use Rattle.session_core.specs.Kept.{kept_answer, kept_of, answer_at}
use Rattle.session_core.specs.Machine.{bytes_for, body_cost, is_full, with_cost, copy_now, arrived_at, repeated, arrive}
use Rattle.session_core.specs.State.{PlainSession, Answered, first_of, answers, answered_of, is_over}
use Rattle.session_core.specs.Time.{time_applied}
use Rattle.session_laws.specs.Growing.{Grows}
use Rattle.session_laws.proofs.Tests.{some_or, if_true, if_false}
use Rattle.session_laws.proofs.Moves.{Steady}
use Rattle.session_laws.proofs.Lists.{get_within}
use Rattle.session_laws.proofs.SoundLemmas.{IsSound}
use Rattle.session_laws.proofs.Steps.{arrive-in_time, along}
use Rattle.session_laws.proofs.Grows.{grows_all}
use Rattle.session_laws.proofs.Ended.{ended_stays}

-- what stands at an id stands there in a longer list
pub at_longer : {X : Type 0} (pairs more : List (ℕ × X)) (rid : ℕ) (x : X) → at_id pairs rid ≡ Some x → at_id (pairs ++ more) rid ≡ Some x
at_longer [] more rid x is = absurd (cc)
at_longer (first ∷ pairs) more rid x is = still (first.0 == rid) first.1 (at_id pairs rid) (at_id (pairs ++ more) rid) x (at_longer pairs more rid x) is
  where
    still : {X : Type 0} (b : Bool) (y : X) (rest longer : Option X) (x : X) → (rest ≡ Some x → longer ≡ Some x) → cond b (Some y) rest ≡ Some x → cond b (Some y) longer ≡ Some x
    still true y rest longer x later is = is
    still false y rest longer x later is = later is

found_at : (b : Bool) (answer : Answered) (given : List Answered) (rid : ℕ) (a : KeptAnswer) → (answer.rid == rid) ≡ b
    → (at_id (map kept_answer given) rid ≡ Some a → (k : ℕ) × (other : Answered) × (slice_get given k ≡ Some other) × (kept_answer other ≡ (rid, a)))
    → cond b (Some (kept_answer answer).1) (at_id (map kept_answer given) rid) ≡ Some a → (k : ℕ) × (other : Answered) × (slice_get (answer ∷ given) k ≡ Some other) × (kept_answer other ≡ (rid, a))
found_at true answer given rid a is later at =
    let same : answer.rid ≡ rid = eqb-true answer.rid rid is in
    let kept : (kept_answer answer).1 ≡ a = cc in
    (0, answer, refl, ap (λ n. (n, (kept_answer answer).1)) same ∙ ap (λ x. (rid, x)) kept)
found_at false answer given rid a is later at =
    let l = later at in
    (suc l.0, l.1, l.2, l.3)

-- an answer that is found by its id is one of the answers
pub answer_found : (given : List Answered) (rid : ℕ) (a : KeptAnswer) → at_id (map kept_answer given) rid ≡ Some a → (k : ℕ) × (answer : Answered) × (slice_get given k ≡ Some answer) × (kept_answer answer ≡ (rid, a))
answer_found [] rid a is = absurd (cc)
answer_found (answer ∷ given) rid a is = found_at (answer.rid == rid) answer given rid a refl (answer_found given rid a) is

-- the first answer is the creation's
abbrev pub IsFirstAnswer : PlainSession → Type 0
IsFirstAnswer s = s.created.rid ≡ first_of s

pub first_answer_steady : Steady IsFirstAnswer
first_answer_steady = record {
  ends = λ t ending on p. p;
  aside = λ t tickets now last_arrival passed counted p. p;
  answers = λ t oldest later front is on reason taken p. p;
  processes = λ t copy on stands broken p. p;
  stands = λ t copy above none small p. p;
  strikes = λ t rid on is p. p;
  gives = λ t item p. p;
}

place_within : (s : PlainSession) (rid : ℕ) → IsSound s → IsFirstAnswer s → (k : ℕ) (answer : Answered) → slice_get (answers s) k ≡ Some answer → answer.rid ≡ rid → (first_of s ≤ rid) × (rid ≤ answered_of s)
place_within s rid sound first zero answer at is =
    let same : s.created ≡ answer = cc in
    let created : s.created.rid ≡ answer.rid = ap (λ (a : Answered). a.rid) same in
    (omega arith, omega arith)
place_within s rid sound first (suc k) answer at is =
    let place : answer.rid ≡ first_of s + 1 + k = sound.ids k answer at in
    let within : k < length s.answered = get_within s.answered k answer at in
    (omega arith, omega arith)

-- an id that has an answer was answered
pub answer_within : (s : PlainSession) (rid : ℕ) (a : KeptAnswer) → IsSound s → IsFirstAnswer s → answer_at s rid ≡ Some a → (first_of s ≤ rid) × (rid ≤ answered_of s)
answer_within s rid a sound first is =
    let f = answer_found (answers s) rid a is in
    place_within s rid sound first f.0 f.1 f.2 (ap (λ (p : ℕ × KeptAnswer). p.0) f.3)

-- what is kept is the answer of its id
pub kept_is : (s : PlainSession) (rid : ℕ) (a : KeptAnswer) → kept_of s rid ≡ Some a → answer_at s rid ≡ Some a
kept_is s rid a is = (some_or (nat_lt s.acknowledged rid && nat_lt (last_id (map kept_answer (answers s))) (rid + (s.terms.requests + 1))) (answer_at s rid) a is).1

pub answer_stays : (s t : PlainSession) → Grows s t → (rid : ℕ) (a : KeptAnswer) → answer_at s rid ≡ Some a → answer_at t rid ≡ Some a
answer_stays s t grows rid a is =
    let all : answers t ≡ answers s ++ grows.answered.0 = ap (λ (c : Answered). c ∷ t.answered) grows.told.2 ∙ ap (λ given. s.created ∷ given) grows.answered.1 in
    ap (λ given. at_id (map kept_answer given) rid) all ∙ ap (λ pairs. at_id pairs rid) (map-append kept_answer (answers s) grows.answered.0)
    ∙ at_longer (map kept_answer (answers s)) (map kept_answer grows.answered.0) rid a is

-- the kept answer of an id is given again
pub repeat_gets : (s : PlainSession) (request : Request) (body : List ℕ) (now : ℕ) (a : KeptAnswer) → is_over s ≡ false → is_full s (body_cost request body) ≡ false
    → is_over (time_applied s now) ≡ false → IsSound (time_applied s now) → IsFirstAnswer (time_applied s now) → kept_of (time_applied s now) request.rid ≡ Some a → (arrive s request body now).1 ≡ arrivals.Answer a.bytes
repeat_gets s request body now a on room goes sound first kept =
    let t : PlainSession = with_cost (body_cost request body) (time_applied s now) in
    let within : nat_le request.rid (answered_of t) ≡ true = le_true request.rid (answered_of t) (answer_within (time_applied s now) request.rid a sound first (kept_is (time_applied s now) request.rid a kept)).1 in
    ap (λ (r : PlainSession × _). r.1) (arrive-in_time s request body now on room ∙ if_false (is_over t) _ _ goes
    ∙ ap (arrived_at t (copy_now t request body)) (if_true (nat_le request.rid (answered_of t)) _ _ within)
    ∙ ap (repeated t request.rid) kept)
  where
    le_true : (a b : ℕ) → a ≤ b → nat_le a b ≡ true
    le_true a b le = grind (arith, nat_tests)

-- once a session has ended, only what was collected and passed on changes
pub ended_all : (s : PlainSession) (entries : List Entry) → IsMade s entries → is_over s ≡ true → after_entries s entries ≡ record s { tickets = (after_entries s entries).tickets; passed = (after_entries s entries).passed }
ended_all s entries made over = along s (λ past t. t ≡ record s { tickets = t.tickets; passed = t.passed })
    (λ past t entry may same p.
    let still : is_over t ≡ true = ap is_over p ∙ over in
    let e = ended_stays t entry.entered may still in
    e ∙ ap (λ (u : PlainSession). record u { tickets = (after_entry t entry.entered).tickets; passed = (after_entry t entry.entered).passed }) p)
    entries made refl

word_stays : (s t : PlainSession) (rid : ℕ) (bytes : List ℕ) → Grows s t → (is_over s ≡ true → t ≡ record s { tickets = t.tickets; passed = t.passed })
    → (o : Option KeptAnswer) → answer_at s rid ≡ o → option_or (option_map (λ (a : KeptAnswer). a.bytes) o) (option_map (λ (e : Ending). last_word (answered_of s) e rid) s.ending) ≡ Some bytes
    → bytes_for t rid ≡ Some bytes
word_stays s t rid bytes grows ended (Some a) at is =
    ap (λ o. option_or (option_map (λ (a : KeptAnswer). a.bytes) o) (option_map (λ (e : Ending). last_word (answered_of t) e rid) t.ending)) (answer_stays s t grows rid a at) ∙ is
word_stays s t rid bytes grows ended None at is =
    let over : is_over s ≡ true = some_ending s.ending is in
    ap (λ (u : PlainSession). bytes_for u rid) (ended over) ∙ ap (λ o. option_or (option_map (λ (a : KeptAnswer). a.bytes) o) (option_map (λ (e : Ending). last_word (answered_of s) e rid) s.ending)) at ∙ is
  where
    some_ending : (o : Option Ending) → option_map (λ (e : Ending). last_word (answered_of s) e rid) o ≡ Some bytes → is_some o ≡ true
    some_ending None is = absurd (cc)
    some_ending (Some e) is = refl

-- what an id was given, it is given at every later time
pub bytes_stay : (s : PlainSession) (entries : List Entry) → IsMade s entries → (rid : ℕ) (bytes : List ℕ) → bytes_for s rid ≡ Some bytes → bytes_for (after_entries s entries) rid ≡ Some bytes
bytes_stay s entries made rid bytes is = word_stays s (after_entries s entries) rid bytes (grows_all s entries made) (ended_all s entries made) (answer_at s rid) refl is
