-- One line of an input after the other.
use Rattle.std.proofs.Common.{◌≡◌, ◌≤◌, ℕ, ◌+◌, List, [], ◌∷◌, ◌++◌, Some, None, inl, inr, length, refl, sym, ◌∙◌, ap, subst, arith, length-append}
use Rattle.std.specs.Prelude.{Option, Result, Ok, Err, IsErr, IsTrue}
use Rattle.std.specs.Io.KnownBytes.{prepend_known}
use Rattle.std.specs.declared.alloc.AllocError.{AllocError}
use Rattle.bosh_types.specs.Limits.{most_lines}
use Rattle.body_cutter.specs.Cutting.{is_stanza}
use Rattle.line_reader.specs.Lines.{Reads}
use Rattle.line_reader.specs.declared.lines.NextLine.TheVariants as lines
use Rattle.client_run.specs.declared.talking.Input.TheVariants as inputs
use Rattle.client_run.specs.declared.talking.Said.{Said}
use Rattle.client_run.specs.declared.talking.Said.TheVariants as said
use Rattle.client_run.specs.declared.talking.Talked.{Talked}
use Rattle.client_run.specs.declared.talking.Talked.TheVariants as talked
use Rattle.client_run.specs.Handing.{Out}
use Rattle.client_run.specs.Talking.{EndsTalk, HasSpoken, SaysBy, Takes, Talk, Talks, TurnsBy, ended_by, none, spoke, talk_of}

module _ (out : Out) (left later : Option (List ℕ)) (put : List (List ℕ)) where
  -- nothing was read
  pub turn_failed : TurnsBy (talk_of out left put) (talk_of out later put) (Ok (Some talked.ReadFault))
  unfolding TurnsBy EndsTalk
  turn_failed = refl

  pub turn_wanting : (error : AllocError) → TurnsBy (talk_of out left put) (talk_of out later put) (Err error)
  unfolding TurnsBy EndsTalk
  turn_wanting error = inl refl

  -- the line is no stanza
  pub turn_bad : (n : ℕ) → n ≡ length put + 1 → Takes left later inputs.Other → TurnsBy (talk_of out left put) (talk_of out later put) (Ok (Some (talked.Bad n)))
  unfolding TurnsBy EndsTalk
  turn_bad n is takes = (is, refl, inl takes)

  -- the stanza was put, or tried to be
  module _ (new : Out) (stanza : List ℕ) (takes : Takes left later (inputs.Stanza stanza)) where
    pub turn_said : (s : Said) → SaysBy stanza out new (Ok s) → TurnsBy (talk_of out left put) (talk_of new later put) (Ok (ended_by s))
    unfolding TurnsBy EndsTalk
    turn_said said.Done says = (stanza, takes, says)
    turn_said said.Over says = inr (stanza, takes, says)
    turn_said said.WriteFault says = (stanza, takes, says)

    pub turn_unsaid : (error : AllocError) → SaysBy stanza out new (Err error) → TurnsBy (talk_of out left put) (talk_of new later put) (Err error)
    unfolding TurnsBy EndsTalk
    turn_unsaid error says = inr (inl (stanza, takes, says))

-- the input came to its end
pub turn_closed : (t u : Talk) (t' : Talked) → EndsTalk t u (Ok t') → TurnsBy t u (Ok (Some t'))
unfolding TurnsBy
turn_closed t u t' ends = ends

pub turn_unclosed : (t u : Talk) (error : AllocError) → EndsTalk t u (Err error) → TurnsBy t u (Err error)
unfolding TurnsBy
turn_unclosed t u error ends = ends

-- no line was put yet
pub spoken_none : (out : Out) (left : Option (List ℕ)) → HasSpoken (talk_of out left []) out left 0
spoken_none out left = record { put = []; counted = refl; speaks = none }

-- the reader took nothing yet
same_left : (left : Option (List ℕ)) → prepend_known [] left ≡ left
same_left None = refl
same_left (Some bytes) = refl

pub spoken_none_at : (out : Out) (left : Option (List ℕ)) (reader : List ℕ) → reader ≡ [] → HasSpoken (talk_of out left []) out (prepend_known reader left) 0
spoken_none_at out left reader is = subst (λ l. HasSpoken (talk_of out left []) out l 0) (sym (ap (λ r. prepend_known r left) is ∙ same_left left)) (spoken_none out left)

-- nothing was read, for want of memory
pub talks_wanting_at : (out : Out) (left : Option (List ℕ)) (error : AllocError) → Talks (talk_of out left []) out left (Err error)
unfolding EndsTalk
talks_wanting_at out left error = record { last = talk_of out left []; speaks = none; few = omega arith; kept = []; ends = inl refl }

module _ (s : Talk) (out new : Out) (left : Option (List ℕ)) (n : ℕ) (spoken : HasSpoken s out left n) where
  -- one more line was put
  pub spoken_more : (later : Option (List ℕ)) → ((put : List (List ℕ)) → n + 1 ≡ length put + 1 → TurnsBy (talk_of out left put) (talk_of new later put) (Ok None)) → HasSpoken s new later (n + 1)
  unfolding TurnsBy SaysBy
  spoken_more later turns =
      let stops = turns spoken.put (ap (λ k. k + 1) spoken.counted) in
      record {
        put = spoken.put ++ stops.0 ∷ [];
        counted = ap (λ k. k + 1) spoken.counted ∙ sym (length-append spoken.put (stops.0 ∷ []));
        speaks = spoke new later stops.0 spoken.speaks stops.1 stops.2;
      }

  -- the line ended it
  pub talks_by : (left' : Option (List ℕ)) (kept : List ℕ) (result : Result Talked AllocError) → n ≤ most_lines → EndsTalk (talk_of out left spoken.put) (talk_of new (prepend_known kept left') spoken.put) result → Talks s new left' result
  talks_by left' kept result few ends = record { last = talk_of out left spoken.put; speaks = spoken.speaks; few = subst (λ k. k ≤ most_lines) spoken.counted few; kept = kept; ends = ends }

  pub talks_ended : (left' : Option (List ℕ)) (kept : List ℕ) (t : Talked) → n ≤ most_lines
      → ((put : List (List ℕ)) → n + 1 ≡ length put + 1 → TurnsBy (talk_of out left put) (talk_of new (prepend_known kept left') put) (Ok (Some t))) → Talks s new left' (Ok t)
  unfolding TurnsBy
  talks_ended left' kept t few turns = talks_by left' kept (Ok t) few (turns spoken.put (ap (λ k. k + 1) spoken.counted))

  pub talks_err : (left' : Option (List ℕ)) (kept : List ℕ) (error : AllocError) → n ≤ most_lines
      → ((put : List (List ℕ)) → n + 1 ≡ length put + 1 → TurnsBy (talk_of out left put) (talk_of new (prepend_known kept left') put) (Err error)) → Talks s new left' (Err error)
  unfolding TurnsBy
  talks_err left' kept error few turns = talks_by left' kept (Err error) few (turns spoken.put (ap (λ k. k + 1) spoken.counted))

  -- as many lines were put as may be
  pub talks_last : (left' : Option (List ℕ)) (kept : List ℕ) (result : Result Talked AllocError) → n ≡ most_lines
      → ((put : List (List ℕ)) → length put ≡ most_lines → EndsTalk (talk_of out left put) (talk_of new (prepend_known kept left') put) result) → Talks s new left' result
  talks_last left' kept result full ends = talks_by left' kept result (omega (arith, full)) (ends spoken.put (sym spoken.counted ∙ full))

-- what was read next
pub takes_end : (left later : Option (List ℕ)) → Reads left later lines.NoLine → Takes left later inputs.End
unfolding Takes
takes_end left later reads = reads

pub takes_stanza : (left later : Option (List ℕ)) (stanza : List ℕ) → Takes left later (inputs.Stanza stanza) → IsTrue (is_stanza stanza)
unfolding Takes
takes_stanza left later stanza takes = takes.1

pub wanting_any : (out : Out) (left : Option (List ℕ)) (result : Result Talked AllocError) → IsErr result → Talks (talk_of out left []) out left result
wanting_any out left (Ok t) is = absurd (cc)
wanting_any out left (Err error) is = talks_wanting_at out left error
