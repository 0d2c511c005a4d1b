-- Sessions that were opened, and which of them are live.
use Rattle.std.specs.Prelude.{ℕ, ◌+◌, Bool, not, List, [], ◌∷◌, filter, map, Option, bytes_eq}
use Rattle.std.specs.List.{find, list_any}
use Rattle.parked_gate.specs.Passes.{GateId}

-- a session that was opened, with how many were opened up to it, and its gate
pub record OpenedSession : Type 0 where
  pub sid : List ℕ
  pub number : ℕ
  pub gate : GateId

-- numbered in turn, from this number on
abbrev pub numbered_from : ℕ → List (List ℕ × GateId) → List OpenedSession
numbered_from number [] = []
numbered_from number (x ∷ xs) = record { sid = x.0; number = number; gate = x.1 } ∷ numbered_from (number + 1) xs

abbrev pub is_removed : List (List ℕ) → OpenedSession → Bool
is_removed removals session = list_any (bytes_eq session.sid) removals

-- those that were not removed
abbrev pub live_among : List (List ℕ) → List OpenedSession → List OpenedSession
live_among removals opened = filter (λ session. not (is_removed removals session)) opened

-- the first of this name
abbrev pub named : List ℕ → List OpenedSession → Option OpenedSession
named sid sessions = find (λ session. bytes_eq session.sid sid) sessions

abbrev pub sids : List OpenedSession → List (List ℕ)
sids sessions = map (λ session. session.sid) sessions

-- each by its opening number
abbrev pub by_number : List OpenedSession → List (ℕ × OpenedSession)
by_number sessions = map (λ session. (session.number, session)) sessions
