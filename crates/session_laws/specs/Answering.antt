-- Why an answer was given, to which request, and what it took and said.
use Rattle.std.specs.Prelude.{◌≡◌, ℕ, ◌<◌, ◌≤◌, true, false, List, ◌∷◌, take, length}
use Rattle.bosh_types.specs.Limits.{most_waiting}
use Rattle.body_writer.specs.Answer.{answer_text}
use Rattle.session_core.specs.declared.outward.Outward.{Outward}
use Rattle.session_core.specs.Answers.{has_reason, front_for, fit_one_answer, answer_parts}
use Rattle.session_core.specs.Copy.{id_of}
use Rattle.session_core.specs.Processed.{Processed}
use Rattle.session_core.specs.State.{PlainSession, Answered, held, is_over}
use Rattle.session_laws.specs.Growing.{Begins}

-- the session as it was when this answer was given, after so many others: it went on, its oldest held request had a reason,
-- and the answer is that request's, took what was due to it, and is the text of its parts
pub record WasGiven (s : PlainSession) (count : ℕ) (answer : Answered) : Type 0 where
  pub earlier : PlainSession
  pub oldest : Processed
  pub later : List Processed
  pub told : (earlier.creation ≡ s.creation) × (earlier.terms ≡ s.terms) × (earlier.created ≡ s.created)
  pub processed : Begins earlier.processed s.processed
  pub answered : earlier.answered ≡ take count s.answered
  pub given : Begins earlier.given s.given
  pub held_is : held earlier ≡ oldest ∷ later
  pub goes_on : is_over earlier ≡ false
  pub reason : has_reason earlier ≡ true
  pub answer_is : answer
      ≡ record {
        rid = id_of oldest.copy;
        bytes = answer_text (answer_parts earlier oldest (front_for earlier oldest));
        moment = earlier.now;
        front = front_for earlier oldest;
      }

-- these are the first of the items, as many as one answer may take: no longer front fits
pub record IsLongestFront (items front : List Outward) : Type 0 where
  pub count : ℕ
  pub few : count ≤ most_waiting
  pub first : front ≡ take count items
  pub fits : fit_one_answer front ≡ true
  pub longest : (more : ℕ) → count < more → more ≤ most_waiting → more ≤ length items → fit_one_answer (take more items) ≡ false
