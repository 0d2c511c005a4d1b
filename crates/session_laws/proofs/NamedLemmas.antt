-- Which stream an answer names, and that what it takes lies on one.
use Rattle.std.proofs.Common.{◌≡◌, ◌≢◌, ◌↔◌, ℕ, zero, suc, ◌<◌, ◌==◌, ◌||◌, Bool, true, false, not, cond, nat_lt, List, [], ◌∷◌, Option, Some, None, length, slice_get, refl, sym, ◌∙◌, ap, arith, if◌then◌else◌, inl, inr}
use Rattle.std.specs.List.{list_all}
use Rattle.std.specs.Option.{option_or}
use Rattle.std.proofs.lemmas.Bool.{cases_eq, eqb-true, ltb-true, ne_eqb}
use Rattle.std.proofs.lemmas.Bool.Decides.{nat_tests}
use Rattle.bosh_types.specs.declared.ending.Closing.{Closing}
use Rattle.body_writer.specs.declared.answer.AnswerParts.{AnswerParts}
use Rattle.stream_names.specs.Streams.{is_among, without}
use Rattle.session_core.specs.declared.outward.Front.{Front}
use Rattle.session_core.specs.declared.outward.Front.TheVariants.{OfStanzas, OfClosing}
use Rattle.session_core.specs.declared.outward.Outward.{Outward}
use Rattle.session_core.specs.declared.outward.Outward.TheVariants.{Stanza, Close}
use Rattle.session_core.specs.Answers.{answer_parts, closing_parts, fit_one_answer, front_for, front_of, is_last}
use Rattle.session_core.specs.Copy.{is_prompt}
use Rattle.session_core.specs.Endings.{closing_condition, terminal}
use Rattle.session_core.specs.Journal.{Journal, IsJournal, state_of}
use Rattle.session_core.specs.Outward.{first_stream, is_close, items_in, lie_on_one, size_of_all, stream_in}
use Rattle.session_core.specs.Processed.{Processed}
use Rattle.session_core.specs.State.{PlainSession, Answered, opened_in, running, waiting}
use Rattle.session_laws.specs.Answering.{WasGiven}
use Rattle.session_laws.specs.Streams.{NamesStream}
use Rattle.session_laws.proofs.AnswersGiven.{every_answer, front_longest}
use Rattle.session_laws.proofs.OpenStreams.{among_some, some_among}
use Rattle.session_laws.proofs.Tests.{both_true, none_some, some_is, some_or, split, true_false}

-- What is left of some streams without one.

left_in : (xs : List ℕ) (n m : ℕ) → is_among xs m ≡ true → m ≢ n → is_among (without xs n) m ≡ true
left_in [] n m is other = absurd (true_false (sym is))
left_in (x ∷ xs) n m is other = elim (cases_eq x m) [
  | inl same ↦
      let kept : not (x == n) ≡ true = ap not (ne_eqb x n (λ here. other (sym same ∙ here))) in
      let here : (x == m) ≡ true = grind (arith, nat_tests, same) in
      ap (λ (b : Bool). is_among (cond b (x ∷ without xs n) (without xs n)) m) kept ∙ ap (λ (b : Bool). b || is_among (without xs n) m) here
  | inr apart ↦ either_way (not (x == n)) (left_in xs n m (sym (ap (λ (b : Bool). b || is_among xs m) (ne_eqb x m apart)) ∙ is) other)
]
  where
    or_true : (b : Bool) → (b || true) ≡ true
    or_true true = refl
    or_true false = refl

    either_way : (b : Bool) → is_among (without xs n) m ≡ true → is_among (cond b (x ∷ without xs n) (without xs n)) m ≡ true
    either_way true rest = ap (λ (c : Bool). (x == m) || c) rest ∙ or_true (x == m)
    either_way false rest = rest

left_out : (xs : List ℕ) (n m : ℕ) → is_among (without xs n) m ≡ true → (is_among xs m ≡ true) × (m ≢ n)
left_out [] n m is = absurd (true_false (sym is))
left_out (x ∷ xs) n m is = by (not (x == n)) refl is (left_out xs n m)
  where
    or_true : (b : Bool) → (b || true) ≡ true
    or_true true = refl
    or_true false = refl

    later : (is_among xs m ≡ true) × (m ≢ n) → (is_among (x ∷ xs) m ≡ true) × (m ≢ n)
    later rest = (ap (λ (c : Bool). (x == m) || c) rest.0 ∙ or_true (x == m), rest.1)

    kept_other : (m : ℕ) → not (m == n) ≡ true → m ≢ n
    kept_other m kept same =
        let here : (m == n) ≡ true = grind (arith, nat_tests, same) in
        true_false (sym kept ∙ ap not here)

    by : (b : Bool) → not (x == n) ≡ b → is_among (cond b (x ∷ without xs n) (without xs n)) m ≡ true → (is_among (without xs n) m ≡ true → (is_among xs m ≡ true) × (m ≢ n))
        → (is_among (x ∷ xs) m ≡ true) × (m ≢ n)
    by false gone is rest = later (rest is)
    by true kept is rest = elim (cases_eq x m) [
      | inl same ↦
          let here : (x == m) ≡ true = grind (arith, nat_tests, same) in
          (ap (λ (b : Bool). b || is_among xs m) here, λ other. kept_other x kept (same ∙ other))
      | inr apart ↦ later (rest (sym (ap (λ (b : Bool). b || is_among (without xs n) m) (ne_eqb x m apart)) ∙ is))
    ]

-- The stream that an answer names.

no_stream : (stream : ℕ) → None ≡ Some stream → ⊥
no_stream stream is = cc

stanzas_name : (s : PlainSession) (one : Processed) (items : List Outward) (stream : ℕ) → ((answer_parts s one (OfStanzas items)).stream ≡ Some stream) ↔ NamesStream s one (OfStanzas items) stream
stanzas_name s one items stream = (λ is. forth one.opened refl is, back)
  where
    rest : Option ℕ
    rest = if nat_lt 1 (opened_in s.processed) then first_stream items else None

    first_is : (others : List Outward) → first_stream others ≡ Some stream → (item : Outward) × (later : List Outward) × (others ≡ item ∷ later) × (stream_in item ≡ stream)
    first_is [] is = absurd (no_stream stream is)
    first_is (item ∷ later) is = (item, later, refl, some_is (stream_in item) stream is)

    forth : (o : Option ℕ) → one.opened ≡ o → option_or o (if nat_lt 1 (opened_in s.processed) then first_stream items else None) ≡ Some stream → NamesStream s one (OfStanzas items) stream
    forth (Some n) opened is = inl (opened ∙ is)
    forth None opened is =
        let parts = some_or (nat_lt 1 (opened_in s.processed)) (first_stream items) stream is in
        let found = first_is items parts.1 in
        inr (opened, ltb-true 1 (opened_in s.processed) parts.0, found.0, found.1, found.2, found.3)

    back : NamesStream s one (OfStanzas items) stream → (answer_parts s one (OfStanzas items)).stream ≡ Some stream
    back named = elim named [
      | inl opened ↦ ap (λ (o : Option ℕ). option_or o (if nat_lt 1 (opened_in s.processed) then first_stream items else None)) opened
      | inr taken ↦
          let more : nat_lt 1 (opened_in s.processed) ≡ true = grind (arith, nat_tests, taken.1) in
          ap (λ (o : Option ℕ). option_or o (if nat_lt 1 (opened_in s.processed) then first_stream items else None)) taken.0
          ∙ ap (λ (b : Bool). if b then first_stream items else None) more ∙ ap first_stream taken.4 ∙ ap Some taken.5
    ]

closing_names : (s : PlainSession) (one : Processed) (closed : ℕ) (closing : Closing) (stream : ℕ)
    → ((answer_parts s one (OfClosing closed closing)).stream ≡ Some stream) ↔ NamesStream s one (OfClosing closed closing) stream
closing_names s one closed closing stream = split (λ (parts : AnswerParts). (parts.stream ≡ Some stream) ↔ NamesStream s one (OfClosing closed closing) stream)
    (is_last s closed) (terminal (closing_condition closing)) (closing_parts s one closed closing)
    (λ last. (λ is. absurd (no_stream stream is), λ named. absurd (true_false (sym last ∙ among_some (without (running s) closed) named.1 (left_in (running s) closed named.1 named.2 named.3)))))
    (λ other. (
      λ is.
          let n = some_among (without (running s) closed) other in
          let left = left_out (running s) closed n.0 n.1 in
          (some_is closed stream is, n.0, left.0, left.1),
      λ named. ap Some named.0,
    ))

pub names_both : (s : PlainSession) (one : Processed) (front : Front) (stream : ℕ) → ((answer_parts s one front).stream ≡ Some stream) ↔ NamesStream s one front stream
names_both s one (OfStanzas items) stream = stanzas_name s one items stream
names_both s one (OfClosing closed closing) stream = closing_names s one closed closing stream

-- What an answer takes lies on one stream.

all_on : (stream : ℕ) (items : List Outward) → list_all (λ other. stream_in other == stream) items ≡ true → (i : ℕ) (item : Outward) → slice_get items i ≡ Some item → stream_in item ≡ stream
all_on stream [] all i item at = absurd (none_some None item refl at)
all_on stream (first ∷ items) all zero item at =
    let both = both_true (stream_in first == stream) (list_all (λ other. stream_in other == stream) items) all in
    ap stream_in (sym (some_is first item at)) ∙ eqb-true (stream_in first) stream both.0
all_on stream (first ∷ items) all (suc i) item at =
    let both = both_true (stream_in first == stream) (list_all (λ other. stream_in other == stream) items) all in
    all_on stream items both.1 i item at

lie_same : (items : List Outward) → lie_on_one items ≡ true → (i j : ℕ) (item other : Outward) → slice_get items i ≡ Some item → slice_get items j ≡ Some other → stream_in item ≡ stream_in other
lie_same [] one i j item other at also = absurd (none_some None item refl at)
lie_same (first ∷ items) one i j item other at also = on i item at ∙ sym (on j other also)
  where
    on : (i : ℕ) (item : Outward) → slice_get (first ∷ items) i ≡ Some item → stream_in item ≡ stream_in first
    on zero item at = ap stream_in (sym (some_is first item at))
    on (suc i) item at = all_on (stream_in first) items one i item at

front_lies : (items : List Outward) → lie_on_one (items_in (front_of items)) ≡ true
front_lies [] = refl
front_lies (Close stream closing ∷ items) = refl
front_lies (Stanza stream bytes ∷ items) =
    let front : List Outward = items_in (front_of (Stanza stream bytes ∷ items)) in
    let l = front_longest (Stanza stream bytes ∷ items) front refl in
    fits_lie front l.fits
  where
    fits_lie : (front : List Outward) → fit_one_answer front ≡ true → lie_on_one front ≡ true
    fits_lie front fits = (both_true _ (lie_on_one front) (both_true _ _ fits).0).1

front_for_lies : (s : PlainSession) (one : Processed) → lie_on_one (items_in (front_for s one)) ≡ true
front_for_lies s one = split (λ (front : Front). lie_on_one (items_in front) ≡ true) (is_prompt one.copy) (OfStanzas []) (front_of (waiting s)) (λ prompt. refl) (λ other. front_lies (waiting s))

pub every_on_one : (journal : Journal) → IsJournal journal → (k : ℕ) (answer : Answered) → slice_get (state_of journal).answered k ≡ Some answer
    → (i j : ℕ) (item other : Outward) → slice_get (items_in answer.front) i ≡ Some item → slice_get (items_in answer.front) j ≡ Some other → stream_in item ≡ stream_in other
every_on_one journal made k answer at i j item other here there =
    let given = every_answer journal made k answer at in
    let front : answer.front ≡ front_for given.earlier given.oldest = ap (λ (a : Answered). a.front) given.answer_is in
    let lies : lie_on_one (items_in answer.front) ≡ true = ap (λ (f : Front). lie_on_one (items_in f)) front ∙ front_for_lies given.earlier given.oldest in
    lie_same (items_in answer.front) lies i j item other here there
