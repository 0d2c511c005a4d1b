-- Every processed copy stands for its id, every answer is that of its id, and nothing is answered that wasn't processed.
use Rattle.std.proofs.Common.{◌≡◌, ℕ, ◌+◌, ◌<◌, ◌≤◌, List, [], ◌∷◌, ◌++◌, Some, None, length, map, slice_get, sym, ◌∙◌, ap, subst, arith, inl, inr}
use Rattle.std.proofs.lemmas.Bool.{cases_eq}
use Rattle.std.proofs.lemmas.List.{length_push}
use Rattle.bosh_types.specs.ById.{at_id}
use Rattle.bosh_types.specs.Rid.{greatest_rid}
use Rattle.session_core.specs.declared.copy.RequestCopy.{RequestCopy}
use Rattle.session_core.specs.Copy.{id_of, with_id}
use Rattle.session_core.specs.Machine.{as_processed, opened}
use Rattle.session_core.specs.declared.opening.Opening.{Opening}
use Rattle.session_core.specs.Processed.{Processed}
use Rattle.session_core.specs.State.{PlainSession, Answered, Stands, first_of, last_of, standing, standing_at, held}
use Rattle.session_core.proofs.StruckLemmas.{standing_more, standing_other, strike_later, struck_before}
use Rattle.session_laws.proofs.Tests.{which}
use Rattle.session_laws.proofs.Moves.{Steady}
use Rattle.session_laws.proofs.Lists.{get_push, get_drop, get_within, at_id-has, standing_still, standing_other as push_other}

pub record SoundLists (first : ℕ) (standing : List RequestCopy) (processed : List Processed) (answered : List Answered) : Type 0 where
  pub stand : (k : ℕ) (one : Processed) → slice_get processed k ≡ Some one → at_id (map with_id standing) (first + 1 + k) ≡ Some one.copy
  pub ids : (k : ℕ) (answer : Answered) → slice_get answered k ≡ Some answer → answer.rid ≡ first + 1 + k
  pub few : length answered ≤ length processed
  pub above : (rid : ℕ) (copy : RequestCopy) → at_id (map with_id standing) rid ≡ Some copy → (first < rid) × (rid ≤ greatest_rid)

abbrev pub IsSound : PlainSession → Type 0
IsSound s = SoundLists (first_of s) (standing s) s.processed s.answered

-- the oldest held copy has the id after those that were answered
pub oldest_id : (s : PlainSession) (oldest : Processed) (later : List Processed) → IsSound s → held s ≡ oldest ∷ later → id_of oldest.copy ≡ first_of s + 1 + length s.answered
oldest_id s oldest later sound is =
    at_id-has (standing s) (first_of s + 1 + length s.answered) oldest.copy (sound.stand (length s.answered) oldest (get_drop (length s.answered) s.processed oldest later is))

pub sound_steady : Steady IsSound
sound_steady = record {
  ends = λ t ending on p. p;
  aside = λ t tickets now last_arrival passed counted p. p;
  answers = λ t oldest later front is on reason taken p.
      let within : length t.answered < length t.processed = get_within t.processed (length t.answered) oldest (get_drop (length t.answered) t.processed oldest later is) in
      let answer : Answered = record { rid = id_of oldest.copy; bytes = _; moment = t.now; front = front } in
      record {
        stand = p.stand;
        ids = λ k given at. elim (get_push t.answered answer k given at) [
          | inl there ↦ p.ids k given there
          | inr last ↦ ap (λ (a : Answered). a.rid) (sym last.1) ∙ oldest_id t oldest later p is ∙ ap (λ n. first_of t + 1 + n) (sym last.0)
        ];
        few = omega (arith, within, length_push t.answered answer);
        above = p.above;
      };
  processes = λ t copy on stands broken p.
      let place : first_of t + length t.processed + 1 ≡ first_of t + 1 + length t.processed = omega arith in
      record {
        stand = λ k found at. elim (get_push t.processed (as_processed t copy) k found at) [
          | inl there ↦ p.stand k found there
          | inr last ↦ ap (standing_at t) (ap (λ n. first_of t + 1 + n) last.0 ∙ sym place) ∙ stands ∙ ap (λ (p : Processed). Some p.copy) last.1
        ];
        ids = p.ids;
        few = omega (arith, p.few, length_push t.processed (as_processed t copy));
        above = p.above;
      };
  stands = λ t copy above none small p.
      let stands_now : standing (record t { placings = t.placings ++ Stands copy ∷ [] }) ≡ standing t ++ copy ∷ [] = standing_more [] t.placings (Stands copy ∷ []) in
      subst (λ (copies : List RequestCopy). SoundLists (first_of t) copies t.processed t.answered) (sym stands_now)
      (record {
        stand = λ k found at. standing_still (standing t) copy (first_of t + 1 + k) found.copy (p.stand k found at);
        ids = p.ids;
        few = p.few;
        above = λ rid found at. elim (which (standing_at t rid)) [
          | inr stood ↦ p.above rid stood.0 stood.1
          | inl nothing ↦ new_above t copy above none small rid found nothing at
        ];
      });
  -- what was processed lies below what is struck
  strikes = λ t rid on is p.
      let later : last_of t < rid = strike_later t rid is in record {
        stand = λ k found at.
            let within : k < length t.processed = get_within t.processed k found at in
            standing_other t rid (first_of t + 1 + k) (λ same. absurd (omega (arith, same, within, later))) ∙ p.stand k found at;
        ids = p.ids;
        few = p.few;
        above = λ other found at. p.above other found (struck_before t rid other found at);
      };
  gives = λ t item p. p;
}
  where
    new_above : (t : PlainSession) (copy : RequestCopy) → last_of t < id_of copy → standing_at t (id_of copy) ≡ None → id_of copy ≤ greatest_rid → (rid : ℕ) (found : RequestCopy)
        → standing_at t rid ≡ None → at_id (map with_id (standing t ++ copy ∷ [])) rid ≡ Some found → (first_of t < rid) × (rid ≤ greatest_rid)
    new_above t copy above none small rid found nothing at = elim (cases_eq rid (id_of copy)) [
      | inl same ↦ (omega arith, omega arith)
      | inr other ↦ (
          let no' : None ≡ Some found = sym nothing ∙ sym (push_other (standing t) copy rid other) ∙ at in
          absurd (cc))
    ]

pub opened_sound : (o : Opening) → IsSound (opened o)
opened_sound o = record {
  stand = λ k copy is. absurd (cc);
  ids = λ k answer is. absurd (cc);
  few = omega arith;
  above = λ rid copy is. absurd (cc);
}
