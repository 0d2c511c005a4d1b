-- Every answer was given for a reason, to the oldest held request.
use Rattle.std.proofs.Common.{◌≡◌, ℕ, zero, suc, ◌+◌, ◌<◌, ◌≤◌, true, false, min, List, [], ◌∷◌, ◌++◌, Some, length, take, slice_get, refl, sym, ◌∙◌, ap, arith, append_assoc, inl, inr}
use Rattle.std.proofs.lemmas.Bool.{cases_lt}
use Rattle.std.proofs.lemmas.List.{take_at, take-append-le}
use Rattle.bosh_types.specs.Limits.{most_waiting}
use Rattle.bosh_types.specs.declared.ending.Closing.{Closing}
use Rattle.body_writer.specs.Answer.{answer_text}
use Rattle.session_core.specs.declared.outward.Front.{Front}
use Rattle.session_core.specs.declared.outward.Front.TheVariants.{OfStanzas, OfClosing}
use Rattle.session_core.specs.declared.outward.Outward.{Outward}
use Rattle.session_core.specs.declared.outward.Outward.TheVariants.{Stanza, Close}
use Rattle.session_core.specs.Answers.{front_of, longest_front, fit_one_answer, answer_parts, with_answer}
use Rattle.session_core.specs.Copy.{id_of}
use Rattle.session_core.specs.Endings.{ended}
use Rattle.session_core.specs.Journal.{Journal, IsJournal, state_of}
use Rattle.session_core.specs.Machine.{as_processed, opened, with_copy}
use Rattle.session_core.specs.State.{Stands, Strikes, PlainSession, Answered}
use Rattle.session_laws.specs.Answering.{WasGiven, IsLongestFront}
use Rattle.session_laws.specs.Growing.{Begins}
use Rattle.session_laws.proofs.Tests.{split}
use Rattle.session_laws.proofs.Lists.{get_push, get_within}
use Rattle.session_laws.proofs.Moves.{Steady}
use Rattle.session_laws.proofs.Grows.{steady-all, begins_same}

begins_more : {X : Type 0} (xs ys more : List X) → Begins xs ys → Begins xs (ys ++ more)
begins_more xs ys more b = (b.0 ++ more, ap (λ l. l ++ more) b.1 ∙ append_assoc xs b.0 more)

abbrev AllGiven : PlainSession → Type 0
AllGiven s = (k : ℕ) (answer : Answered) → slice_get s.answered k ≡ Some answer → WasGiven s k answer

-- the same but for what was processed, given or told of it
moved : (s t : PlainSession) (k : ℕ) (answer : Answered) → t.creation ≡ s.creation → t.terms ≡ s.terms → t.created ≡ s.created → take k s.answered ≡ take k t.answered
    → Begins s.processed t.processed → Begins s.given t.given → WasGiven s k answer → WasGiven t k answer
moved s t k answer creation terms created answered processed given w = record {
  earlier = w.earlier;
  oldest = w.oldest;
  later = w.later;
  told = ((w.told).0 ∙ sym creation, (w.told).1 ∙ sym terms, (w.told).2 ∙ sym created);
  processed = begins_then w.earlier.processed s.processed t.processed w.processed processed;
  answered = w.answered ∙ answered;
  given = begins_then w.earlier.given s.given t.given w.given given;
  held_is = w.held_is;
  goes_on = w.goes_on;
  reason = w.reason;
  answer_is = w.answer_is;
}
  where
    begins_then : {X : Type 0} (xs ys zs : List X) → Begins xs ys → Begins ys zs → Begins xs zs
    begins_then xs ys zs b c = (b.0 ++ c.0, c.1 ∙ ap (λ l. l ++ c.0) b.1 ∙ append_assoc xs b.0 c.0)

pub all_given : Steady AllGiven
all_given = record {
  ends = λ t ending on p k answer is. moved t (ended ending t) k answer refl refl refl refl (begins_same t.processed) (begins_same t.given) (p k answer is);
  aside = λ t tickets now last_arrival passed counted p k answer is. moved t (record t { tickets = tickets; now = now; last_arrival = last_arrival; passed = passed; counted = counted }) k answer refl refl refl refl (begins_same t.processed) (begins_same t.given) (p k answer is);
  answers = λ t oldest later front is on reason taken p k answer at.
      let new : Answered = record { rid = id_of oldest.copy; bytes = answer_text (answer_parts t oldest front); moment = t.now; front = front } in
      elim (get_push t.answered new k answer at) [
        | inl there ↦
            let within : k < length t.answered = get_within t.answered k answer there in
            moved t (with_answer t oldest front) k answer refl refl refl (sym (take-append-le k t.answered (new ∷ []) (omega arith))) (begins_same t.processed) (begins_same t.given) (p k answer there)
        | inr last ↦ record {
          earlier = t;
          oldest = oldest;
          later = later;
          told = (refl, refl, refl);
          processed = begins_same t.processed;
          answered = sym (take_at t.answered (new ∷ []) k (sym last.0));
          given = begins_same t.given;
          held_is = is;
          goes_on = on;
          reason = reason;
          answer_is = sym last.1 ∙ ap (λ (f : Front). record { rid = id_of oldest.copy; bytes = answer_text (answer_parts t oldest f); moment = t.now; front = f }) (sym taken);
        }
      ];
  processes = λ t copy on stands broken p k answer is. moved t (with_copy t copy) k answer refl refl refl refl (as_processed t copy ∷ [], refl) (begins_same t.given) (p k answer is);
  stands = λ t copy above none small p k answer is. moved t (record t { placings = t.placings ++ Stands copy ∷ [] }) k answer refl refl refl refl (begins_same t.processed) (begins_same t.given) (p k answer is);
  strikes = λ t rid on is_due p k answer is. moved t (record t { placings = t.placings ++ Strikes rid t.now ∷ [] }) k answer refl refl refl refl (begins_same t.processed) (begins_same t.given) (p k answer is);
  gives = λ t item p k answer is. moved t (record t { given = t.given ++ item ∷ [] }) k answer refl refl refl refl (begins_same t.processed) (item ∷ [], refl) (p k answer is);
}

pub every_answer : (journal : Journal) → IsJournal journal → (k : ℕ) (answer : Answered) → slice_get (state_of journal).answered k ≡ Some answer → WasGiven (state_of journal) k answer
every_answer journal made = steady-all AllGiven all_given (opened journal.opening) journal.entries made.1 (λ k answer is. absurd (cc))

-- The front that an answer takes.

record Longest (most : ℕ) (items front : List Outward) : Type 0 where
  count : ℕ
  few : count ≤ most
  first : front ≡ take count items
  fits : fit_one_answer front ≡ true
  longest : (more : ℕ) → count < more → more ≤ most → fit_one_answer (take more items) ≡ false

longest_is : (most : ℕ) (items : List Outward) → Longest most items (longest_front most items)
longest_is zero items = record { count = 0; few = omega arith; first = refl; fits = refl; longest = λ more later within. absurd (omega arith) }
longest_is (suc most) items = split (Longest (suc most) items) (fit_one_answer (take (suc most) items)) (take (suc most) items) (longest_front most items)
    (λ fits. record { count = suc most; few = omega arith; first = refl; fits = fits; longest = λ more later within. absurd (omega arith) })
    (λ fails.
    let l = longest_is most items in
    record {
      count = l.count;
      few = omega (arith, l.few);
      first = l.first;
      fits = l.fits;
      longest = λ more later within. elim (cases_lt more (suc most)) [
        | inl less ↦ l.longest more later (omega arith)
        | inr same ↦ (
            let is : more ≡ suc most = omega arith in
            ap (λ n. fit_one_answer (take n items)) is ∙ fails)
      ];
    })

-- where no closing comes first, an answer takes the longest front
pub front_longest : (items front : List Outward) → front_of items ≡ OfStanzas front → IsLongestFront items front
front_longest [] front is =
    let none : [] ≡ front = same_items [] front is in
    record { count = 0; few = omega arith; first = sym none; fits = ap fit_one_answer (sym none); longest = λ more later within few. absurd (omega arith) }
  where
    same_items : (xs ys : List Outward) → OfStanzas xs ≡ OfStanzas ys → xs ≡ ys
    same_items xs ys is = cc
front_longest (Close stream closing ∷ items) front is = absurd (no_stanzas stream closing front is)
  where
    no_stanzas : (stream : ℕ) (closing : Closing) (front : List Outward) → OfClosing stream closing ≡ OfStanzas front → ⊥
    no_stanzas stream closing front is = cc
front_longest (Stanza stream bytes ∷ items) front is =
    let all : List Outward = Stanza stream bytes ∷ items in
    let l = longest_is (min most_waiting (length items + 1)) all in
    let same : longest_front (min most_waiting (length items + 1)) all ≡ front = same_items _ front is in
    record {
      count = l.count;
      few = omega (arith, l.few);
      first = sym same ∙ l.first;
      fits = ap fit_one_answer (sym same) ∙ l.fits;
      longest = λ more later within few. l.longest more later (omega (arith, within, few));
    }
  where
    same_items : (xs ys : List Outward) → OfStanzas xs ≡ OfStanzas ys → xs ≡ ys
    same_items xs ys is = cc
