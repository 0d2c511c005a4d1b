-- What answers take: a pause and an add nothing, and another one item at least where one waits.
use Rattle.std.proofs.Common.{◌≡◌, ℕ, ◌≤◌, true, false, All, IsTrue, List, [], ◌∷◌, Some, length, take, map, slice_get, get_or, refl, sym, ◌∙◌, ap, arith, subst, length-append, inl, inr}
use Rattle.std.specs.List.{list_all}
use Rattle.std.proofs.lemmas.Bool.{cases_lt}
use Rattle.std.proofs.lemmas.Bool.Decides.{nat_tests}
use Rattle.std.proofs.lemmas.List.{get_or_append_left, length-take-le, length-take}
use Rattle.std.proofs.lemmas.List.Elements.{All-nil, All-cons, All-append, All-drop, All-head}
use Rattle.bosh_types.specs.Limits.{longest_stanza}
use Rattle.bosh_types.specs.declared.ending.Closing.{Closing}
use Rattle.body_cutter.specs.Cutting.{is_stanza}
use Rattle.body_cutter.proofs.Cuts.{stanza_is}
use Rattle.session_core.specs.declared.outward.Front.TheVariants.{OfStanzas}
use Rattle.session_core.specs.declared.outward.Outward.{Outward}
use Rattle.session_core.specs.declared.outward.Outward.TheVariants.{Stanza, Close}
use Rattle.session_core.specs.declared.replies.Taken.{Taken}
use Rattle.session_core.specs.declared.replies.Taken.TheVariants as takings
use Rattle.session_core.specs.Answers.{front_of, fit_one_answer}
use Rattle.session_core.specs.Copy.{is_prompt, unnamed}
use Rattle.session_core.specs.Journal.{Entered, Journal, IsJournal, state_of, MayEnter}
use Rattle.session_core.specs.Machine.{opened, back, back_closed}
use Rattle.session_core.specs.Outward.{items_in, size_of}
use Rattle.session_core.specs.Passed.{given_by, if_done}
use Rattle.session_core.specs.Processed.{Processed}
use Rattle.session_core.specs.State.{PlainSession, Answered, waiting, answers, taken_by_answers}
use Rattle.session_laws.specs.Answering.{WasGiven, IsLongestFront}
use Rattle.session_laws.specs.Growing.{Begins}
use Rattle.session_laws.proofs.Tests.{both_true, if_true, if_false, some_is}
use Rattle.session_laws.proofs.AnswersGiven.{front_longest}
use Rattle.session_laws.proofs.GivenIn.{one as given_one, entry_gives}
use Rattle.session_laws.proofs.Lists.{get_drop, get_append}
use Rattle.session_laws.proofs.Steps.{entry-by, along}

IsSmall : Outward → Type 0
IsSmall item = size_of item ≤ longest_stanza

stanza_small : (stream : ℕ) (stanza : List ℕ) → IsTrue (is_stanza stanza) → IsSmall (Stanza stream stanza)
unfolding IsSmall
stanza_small stream stanza is = ((stanza_is stanza).0 is).0

close_small : (stream : ℕ) (closing : Closing) → IsSmall (Close stream closing)
unfolding IsSmall
close_small stream closing = omega arith

done_small : (item : Outward) (r : Taken) → IsSmall item → All IsSmall (given_one (if_done item r))
done_small item takings.Done small = All-cons IsSmall item [] small (All-nil IsSmall)
done_small item takings.Full small = All-nil IsSmall
done_small item takings.Over small = All-nil IsSmall

entry_small : (s : PlainSession) (entered : Entered) → MayEnter s entered → All IsSmall (given_one (given_by s entered))
entry_small s entered may = entry-by s (λ e u. All IsSmall (given_one (given_by s e))) (record {
  arrives = λ request body now allowed on room. All-nil IsSmall;
  backs = λ stream stanza now allowed on room. done_small (Stanza stream stanza) (back s stream stanza now).1 (stanza_small stream stanza allowed);
  closes = λ stream closing now on room. done_small (Close stream closing) (back_closed s stream closing now).1 (close_small stream closing);
  ticks = λ now on due room. All-nil IsSmall;
  collects = λ index ticket is. All-nil IsSmall;
  takes = λ item is. All-nil IsSmall;
  limits = λ kind cost now on full. All-nil IsSmall;
}) entered may

greeting_small : (greeting : List (List ℕ)) → IsTrue (list_all is_stanza greeting) → All IsSmall (map (Stanza unnamed) greeting)
greeting_small [] all = All-nil IsSmall
greeting_small (stanza ∷ greeting) all =
    let both = both_true (is_stanza stanza) (list_all is_stanza greeting) all in
    All-cons IsSmall (Stanza unnamed stanza) (map (Stanza unnamed) greeting) (stanza_small unnamed stanza both.0) (greeting_small greeting both.1)

every_small : (journal : Journal) → IsJournal journal → All IsSmall (state_of journal).given
every_small journal made = along (opened journal.opening) (λ past s. All IsSmall s.given)
    (λ past s entry may same small.
    subst (All IsSmall) (sym (entry_gives s entry.entered may)) (All-append IsSmall s.given (given_one (given_by s entry.entered)) small (entry_small s entry.entered may)))
    journal.entries made.1 (greeting_small journal.opening.greeting ((made.0).greeting).0)

begins_small : (xs ys : List Outward) → Begins xs ys → All IsSmall ys → All IsSmall xs
begins_small xs ys b small k d within =
    subst IsSmall (ap (λ l. get_or l k d) b.1 ∙ get_or_append_left xs b.0 d k within) (small k d (omega (arith, within, ap length b.1, length-append xs b.0)))

-- one item that comes first is taken
front_some : (item : Outward) (items : List Outward) → IsSmall item → 1 ≤ length (items_in (front_of (item ∷ items)))
unfolding IsSmall
front_some (Close stream closing) items small = omega arith
front_some (Stanza stream bytes) items small =
    let l = front_longest (Stanza stream bytes ∷ items) (items_in (front_of (Stanza stream bytes ∷ items))) refl in
    taken_some (Stanza stream bytes ∷ items) (items_in (front_of (Stanza stream bytes ∷ items))) l (one_fits stream bytes small) (omega arith)
  where
    one_fits : (stream : ℕ) (bytes : List ℕ) → length bytes ≤ longest_stanza → fit_one_answer (Stanza stream bytes ∷ []) ≡ true
    one_fits stream bytes small = grind (arith, nat_tests)

    taken_some : (all front : List Outward) → IsLongestFront all front → fit_one_answer (take 1 all) ≡ true → 1 ≤ length all → 1 ≤ length front
    taken_some all front l fits some = elim (cases_lt 0 l.count) [
      | inl more ↦ omega (arith, ap length l.first, length-take l.count all)
      | inr none ↦ (
          let no' : true ≡ false = sym fits ∙ l.longest 1 (omega arith) (omega arith) some in
          absurd (cc))
    ]

fronts_some : (items : List Outward) → All IsSmall items → 1 ≤ length items → 1 ≤ length (items_in (front_of items))
fronts_some [] small some = absurd (omega arith)
fronts_some (item ∷ items) small some = front_some item items (All-head IsSmall item items small)

-- an answer takes one at least, where one waits and its request is neither a pause nor an add
pub every_served : (journal : Journal) → IsJournal journal → (k : ℕ) (answer : Answered) (given : WasGiven (state_of journal) k answer) → is_prompt given.oldest.copy ≡ false → 1 ≤ length (waiting given.earlier) → 1 ≤ length (items_in answer.front)
every_served journal made k answer given other some =
    let small : All IsSmall (given.earlier).given = begins_small (given.earlier).given (state_of journal).given given.given (every_small journal made) in
    let front : answer.front ≡ front_of (waiting given.earlier) = ap (λ (a : Answered). a.front) given.answer_is ∙ if_false (is_prompt given.oldest.copy) (OfStanzas []) (front_of (waiting given.earlier)) other in
    subst (λ f. 1 ≤ length (items_in f)) (sym front) (fronts_some (waiting given.earlier) (All-drop IsSmall (taken_by_answers (answers given.earlier)) (given.earlier).given small) some)

-- the request of an answer is the copy with its place
pub answered_copy : (s : PlainSession) (k : ℕ) (answer : Answered) (given : WasGiven s k answer) → k ≤ length s.answered → slice_get s.processed k ≡ Some given.oldest
answered_copy s k answer given within =
    let count : length (given.earlier).answered ≡ k = ap length given.answered ∙ length-take-le k s.answered within in
    let here : slice_get (given.earlier).processed (length (given.earlier).answered) ≡ Some given.oldest = get_drop (length (given.earlier).answered) (given.earlier).processed given.oldest given.later given.held_is in
    ap (slice_get s.processed) (sym count) ∙ ap (λ l. slice_get l (length (given.earlier).answered)) (given.processed).1 ∙ get_append (given.earlier).processed (given.processed).0 (length (given.earlier).answered) given.oldest here

-- a pause and an add take nothing
pub prompt_takes : (s : PlainSession) (k : ℕ) (one : Processed) (answer : Answered) → WasGiven s k answer → k ≤ length s.answered → slice_get s.processed k ≡ Some one → is_prompt one.copy ≡ true → answer.front ≡ OfStanzas []
prompt_takes s k one answer given within at prompt =
    let same : given.oldest ≡ one = some_is given.oldest one (sym (answered_copy s k answer given within) ∙ at) in
    ap (λ (a : Answered). a.front) given.answer_is ∙ if_true (is_prompt given.oldest.copy) (OfStanzas []) (front_of (waiting given.earlier)) (ap (λ (p : Processed). is_prompt p.copy) same ∙ prompt)
