-- What a copy breaks when it is processed, once it and all lower ids have come.
use Rattle.std.specs.Prelude.{ℕ, ◌&&◌, ◌==◌, Bool, false, not, nat_lt, List, [], ◌∷◌, length, drop, Option, Some, None, is_some, if◌then◌else◌}
use Rattle.bosh_types.specs.declared.ending.Ending.{Ending}
use Rattle.bosh_types.specs.declared.ending.Ending.TheVariants.{WrongKey, UnknownStream, PauseTooLong, Overactive}
use Rattle.bosh_types.specs.declared.terms.Terms.{Terms}
use Rattle.key_sequence.specs.Current.{fits}
use Rattle.pause_rules.specs.declared.mark.Mark.{Mark}
use Rattle.pause_rules.specs.Overactive.{apart, is_overactive}
use Rattle.stream_names.specs.Streams.{named}
use Rattle.session_core.specs.declared.copy.RequestCopy.{RequestCopy}
use Rattle.session_core.specs.Copy.{id_of, is_pause, is_poll}
use Rattle.session_core.specs.Outward.{items_in, stanzas_in}
use Rattle.session_core.specs.Processed.{Processed, copies_of}
use Rattle.session_core.specs.State.{PlainSession, Answered, last_from, running_in}

pub data Rule : Type 0 where
  Keys : Rule
  Streams : Rule
  Pauses : Rule
  Activity : Rule

-- what the rules ask of a session: the current key, the terms, the open streams, how many requests are held, and what is to be
-- known of the copy with the id before
pub record Asks : Type 0 where
  pub key : Option (List ℕ)
  pub terms : Terms
  pub running : List ℕ
  pub held : ℕ
  pub prior : Mark

-- the answer took nothing
abbrev pub is_bare : Answered → Bool
is_bare answer = length (stanzas_in (items_in answer.front)) == 0

-- what the rule on activity asks of the copy that is tested
abbrev pub mark_of : RequestCopy → Mark
mark_of copy = record { arrived = copy.arrived; empty = is_poll copy; creation = false; bare = false }

-- what it asks of the last of the copies that were processed after this creation, where answers were given after this first one
abbrev pub prior_mark : RequestCopy → List Processed → Answered → List Answered → Mark
prior_mark creation processed created answered = record {
  arrived = (last_from creation (copies_of processed)).arrived;
  empty = is_poll (last_from creation (copies_of processed));
  creation = length processed == 0;
  bare = (length (drop (length answered) processed) == 0) && is_bare (last_from created answered);
}

-- what is asked where this key is the current one and these copies were processed
abbrev pub asked_with : PlainSession → Option (List ℕ) → List Processed → Asks
asked_with s key processed = record {
  key = key;
  terms = s.terms;
  running = running_in processed s.answered;
  held = length (drop (length s.answered) processed);
  prior = prior_mark s.creation processed s.created s.answered;
}

abbrev pub asked_of : PlainSession → Asks
asked_of s = asked_with s s.key s.processed

-- a pause of more seconds than the session allows
abbrev pub pause_breaks : Asks → RequestCopy → Option ℕ → Option Ending
pause_breaks asks copy None = None
pause_breaks asks copy (Some seconds) =
    if is_pause copy && nat_lt asks.terms.maxpause seconds
    then Some (PauseTooLong (id_of copy) seconds asks.terms.maxpause)
    else None

-- the stream that it names isn't open
abbrev pub names_none : List ℕ → Option (List ℕ) → Bool
names_none running None = false
names_none running (Some name) = not (is_some (named running name))

-- how it breaks each rule: a key that doesn't lead to the current one (XEP-0124 section 15.4), a stream that isn't open
-- (section 16), a pause that is too long (section 10), an empty request that adds no stream too soon after the one before it
-- (sections 11, 12)
abbrev pub breaks : Asks → RequestCopy → Rule → Option Ending
breaks asks copy Keys = if fits asks.key copy.request.key then None else Some (WrongKey (id_of copy))
breaks asks copy Streams = if names_none asks.running copy.request.stream then Some (UnknownStream (id_of copy)) else None
breaks asks copy Pauses = pause_breaks asks copy copy.request.pause
breaks asks copy Activity =
    if is_overactive asks.terms asks.held (mark_of copy) asks.prior
    then Some (Overactive (id_of copy) (apart (mark_of copy) asks.prior))
    else None

-- the rules in their order
abbrev pub rules : List Rule
rules = Keys ∷ Streams ∷ Pauses ∷ Activity ∷ []

-- the ending by the first rule that the copy breaks
abbrev pub first_broken : Asks → RequestCopy → List Rule → Option Ending
first_broken asks copy [] = None
first_broken asks copy (rule ∷ others) =
    elim (breaks asks copy rule) [ Some ending ↦ Some ending | None ↦ first_broken asks copy others ]

abbrev pub broken_rule : Asks → RequestCopy → Option Ending
broken_rule asks copy = first_broken asks copy rules
