-- How a session goes on: what it had stays, and its lists only grow.
use Rattle.std.specs.Prelude.{◌≡◌, List, ◌++◌, Some}
use Rattle.bosh_types.specs.declared.ending.Ending.{Ending}
use Rattle.session_core.specs.Journal.{Entry, Journal}
use Rattle.session_core.specs.State.{PlainSession, inward}

-- a list begins with an earlier one
abbrev pub Begins : {X : Type 0} → List X → List X → Type 0
Begins {X} xs ys = (later : List X) × (ys ≡ xs ++ later)

-- what came to the places of ids, was processed, passed on, given and answered begins with what it was before, and an ending stays
pub record Grows (s t : PlainSession) : Type 0 where
  pub told : (t.creation ≡ s.creation) × (t.terms ≡ s.terms) × (t.created ≡ s.created) × (t.reporting.on ≡ s.reporting.on)
  pub placings : Begins s.placings t.placings
  pub processed : Begins s.processed t.processed
  pub inward_items : Begins (inward s) (inward t)
  pub given : Begins s.given t.given
  pub answered : Begins s.answered t.answered
  pub ending : (ending : Ending) → s.ending ≡ Some ending → t.ending ≡ Some ending

-- the journal with these entries after its own
abbrev pub with_later : Journal → List Entry → Journal
with_later journal later = record journal { entries = journal.entries ++ later }
