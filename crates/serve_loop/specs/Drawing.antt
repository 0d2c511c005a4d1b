-- The names of the sessions that a worker opened.
use Rattle.std.specs.Prelude.{◌≡◌, ℕ, Contains, List, [], ◌∷◌, ◌++◌, Some, ◌⊎◌}
use Rattle.parked_gate.specs.Histories.{StartsWith}
use Rattle.parked_gate.specs.Passes.{Known}
use Rattle.session_table.specs.declared.entry.Entry as table
use Rattle.session_table.specs.History.{opening_in, openings_of}
use Rattle.session_table.specs.Sessions.{OpenedSession}
use Rattle.session_table.specs.Sids.{sid_of}

-- the entry tells of a session that was opened in this history: its name is this one, followed by its opening number
pub record IsOpenedAs (log : List table.Entry) (name : List ℕ) (e : table.Entry) : Type 0 where
  pub session : OpenedSession
  pub there : Contains (openings_of log) session
  pub tells : opening_in e ≡ Some (session.sid, session.gate)
  pub named : session.sid ≡ sid_of name session.number

-- each of these entries tells of a session that was opened under one of these names: the names are used in their order, and none twice
abbrev pub AreOpenedAs : List table.Entry → List (List ℕ) → List table.Entry → Type 0
AreOpenedAs log [] [] = Unit {0}
AreOpenedAs log [] (e ∷ entries) = ⊥
AreOpenedAs log (name ∷ names) [] = Unit {0}
AreOpenedAs log (name ∷ names) (e ∷ entries) = (IsOpenedAs log name e × AreOpenedAs log names entries) ⊎ AreOpenedAs log names (e ∷ entries)

-- these names were drawn, and what a worker entered in the directory's history are openings of sessions under such names, and nothing else
pub record OpensAsDrawn (old new : List (List ℕ)) (before after : Known table.Entry) : Type 0 where
  pub names : List (List ℕ)
  pub drew : new ≡ old ++ names
  pub begins : StartsWith after.seen before.seen
  pub entries : List table.Entry
  pub entered : after.mine ≡ before.mine ++ entries
  pub named : AreOpenedAs after.seen names entries
