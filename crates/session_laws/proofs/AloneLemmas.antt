-- A session to which no stream was added has just the first.
use Rattle.std.proofs.Common.{◌≡◌, ℕ, zero, suc, ◌+◌, ◌<◌, ◌≤◌, ◌==◌, ◌&&◌, ◌||◌, Bool, true, false, nat_lt, List, [], ◌∷◌, ◌++◌, Option, Some, None, is_some, length, take, slice_get, refl, sym, ◌∙◌, ap, arith, subst, if◌then◌else◌, inl, inr}
use Rattle.std.specs.List.{list_any, sum_by}
use Rattle.std.proofs.lemmas.Bool.{cases_eq, ltb-true, ne_eqb}
use Rattle.std.proofs.lemmas.Bool.Decides.{nat_tests}
use Rattle.bosh_types.specs.Limits.{most_streams}
use Rattle.stream_names.specs.Streams.{is_among, those}
use Rattle.stream_names.proofs.Numbers.{all_those, among, among_all, those_same}
use Rattle.session_core.specs.Copy.{is_add, unnamed}
use Rattle.session_core.specs.Journal.{Journal, IsJournal, state_of}
use Rattle.session_core.specs.Processed.{Processed}
use Rattle.session_core.specs.Run.{state_testing}
use Rattle.session_core.specs.State.{Answered, is_open_in, is_over, opened_in, running, running_in}
use Rattle.session_laws.specs.RunEnded.{BreaksNoRule}
use Rattle.session_laws.specs.Streams.{AddNone}
use Rattle.session_laws.proofs.EndsBack.{every_ends}
use Rattle.session_laws.proofs.GivenLemmas.{sum_by_cons}
use Rattle.session_laws.proofs.OpenStreams.{open_parts, some_among}
use Rattle.session_laws.proofs.RunAtEnd.{every_ruled}
use Rattle.session_laws.proofs.Tests.{both_true, is_or_not, neither, none_some, some_is, true_false}

module _ {X : Type 0} where
  -- of what none is, none of them is
  pub any_at : (p : X → Bool) (xs : List X) (k : ℕ) (x : X) → list_any p xs ≡ false → slice_get xs k ≡ Some x → p x ≡ false
  any_at p [] k x none at = absurd (none_some None x refl at)
  any_at p (first ∷ xs) zero x none at = sym (ap p (some_is first x at)) ∙ (neither (p first) (list_any p xs) none).0
  any_at p (first ∷ xs) (suc k) x none at = any_at p xs k x (neither (p first) (list_any p xs) none).1 at

  -- the first elements are those of the whole
  pub get_take : (k : ℕ) (xs : List X) (j : ℕ) (x : X) → slice_get (take k xs) j ≡ Some x → slice_get xs j ≡ Some x
  get_take zero xs j x at = absurd (none_some None x refl at)
  get_take (suc k) [] j x at = absurd (none_some None x refl at)
  get_take (suc k) (y ∷ xs) zero x at = at
  get_take (suc k) (y ∷ xs) (suc j) x at = get_take k xs j x at

-- where none of these opened a stream, one was opened
pub opened_alone : (processed : List Processed) → ((k : ℕ) (one : Processed) → slice_get processed k ≡ Some one → one.opened ≡ None) → opened_in processed ≡ 1
opened_alone [] none = refl
opened_alone (one ∷ processed) none =
    let here : one.opened ≡ None = none 0 one refl in
    let more : Option ℕ → ℕ = λ o. if is_some o then 1 else 0 in
    let nothing : more one.opened ≡ 0 = ap more here in
    let rest : opened_in processed ≡ 1 = opened_alone processed (λ k x at. none (suc k) x at) in
    omega (arith, sum_by_cons (λ (x : Processed). if is_some x.opened then 1 else 0) one processed, nothing, rest)

-- the first is the only one of some that holds of no other
first_alone : those (λ m. m == 0) ≡ 0 ∷ []
unfolding those
first_alone = refl

alone_in : (f : ℕ → Bool) → (length (those f) == 0) ≡ false → ((m : ℕ) → 1 ≤ m → f m ≡ false) → those f ≡ 0 ∷ []
alone_in f some none = those_same f (λ m. m == 0) (λ m small. at m) ∙ first_alone
  where
    passes : f 0 ≡ true
    passes =
        let n = some_among (those f) some in
        let small : n.0 < most_streams = among_all (λ m. m < most_streams) (those f) n.0 (all_those f (λ m. m < most_streams) (λ m low is. low)) n.1 in
        let is : f n.0 ≡ true = sym (among f n.0 small) ∙ n.1 in
        elim (cases_eq n.0 0) [
          | inl same ↦ ap f (sym same) ∙ is
          | inr other ↦ absurd (true_false (sym is ∙ none n.0 (omega (arith, other))))
        ]

    at : (m : ℕ) → f m ≡ (m == 0)
    at m = elim (cases_eq m 0) [
      | inl same ↦
          let yes : (m == 0) ≡ true = grind (arith, nat_tests, same) in
          ap f same ∙ passes ∙ sym yes
      | inr other ↦ none m (omega (arith, other)) ∙ sym (ne_eqb m 0 other)
    ]

-- no other is open
later_shut : (processed : List Processed) (answers : List Answered) (m : ℕ) → opened_in processed ≡ 1 → 1 ≤ m → is_open_in processed answers m ≡ false
later_shut processed answers m one later = elim (is_or_not (is_open_in processed answers m)) [
  | inl is ↦ absurd (omega (arith, ltb-true m (opened_in processed) (open_parts processed answers m is).0, one, later))
  | inr other ↦ other
]

module _ (journal : Journal) (rules : BreaksNoRule journal (state_of journal).processed) (none : AddNone (state_of journal).processed) where
  pub opens_none : (k : ℕ) (one : Processed) → slice_get (state_of journal).processed k ≡ Some one → one.opened ≡ None
  opens_none k one at =
      let lower : List Processed = take k (state_of journal).processed in
      rules.opens k one at
      ∙ ap (λ (b : Bool). if b && nat_lt (opened_in lower) most_streams then Some (opened_in lower) else None) (any_at (λ (x : Processed). is_add x.copy) (state_of journal).processed k one none at)

  -- so each copy was processed with that one
  pub alone : (k : ℕ) (one : Processed) → slice_get (state_of journal).processed k ≡ Some one → (length one.running == 0) ≡ false → (one.running ≡ unnamed ∷ []) × (one.opened ≡ None)
  alone k one at some =
      let lower : List Processed = take k (state_of journal).processed in
      let t = rules.tried k one at in
      let count : opened_in lower ≡ 1 = opened_alone lower (λ j x there. opens_none j x (get_take k (state_of journal).processed j x there)) in
      let answers : List Answered = (state_testing journal.opening t.0 t.1).answered in
      (sym t.7 ∙ alone_in (is_open_in lower answers) (ap (λ (xs : List ℕ). length xs == 0) t.7 ∙ some) (λ m later. later_shut lower answers m count later), opens_none k one at)

more_than_none : (n : ℕ) → (n == 0) ≡ false → 1 ≤ n
more_than_none zero some = absurd (true_false some)
more_than_none (suc n) some = omega arith

-- a stream is open while the session goes on, and was at each copy
pub every_open : (journal : Journal) → IsJournal journal → is_over (state_of journal) ≡ false → 1 ≤ length (running (state_of journal))
every_open journal made on = more_than_none (length (running (state_of journal))) ((every_ends journal made).4.some on)

pub every_open_each : (journal : Journal) → IsJournal journal → (k : ℕ) (one : Processed) → slice_get (state_of journal).processed k ≡ Some one → 1 ≤ length one.running
every_open_each journal made k one at = more_than_none (length one.running) ((every_ends journal made).4.each k one at)

pub every_alone : (journal : Journal) → IsJournal journal → AddNone (state_of journal).processed → (k : ℕ) (one : Processed) → slice_get (state_of journal).processed k ≡ Some one
    → (one.running ≡ unnamed ∷ []) × (one.opened ≡ None)
every_alone journal made none k one at = alone journal (every_ruled journal made).0 none k one at ((every_ends journal made).4.each k one at)
