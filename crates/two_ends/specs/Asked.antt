-- What can be asked of a world.
use Rattle.std.specs.Prelude.{ℕ, ◌+◌, ◌≤◌, ◌==◌, ◌&&◌, nat_le, All, Bool, List, [], ◌∷◌, map, Option, None, Some, is_some, if◌then◌else◌}
use Rattle.std.specs.List.{find}
use Rattle.bosh_types.specs.Rid.{greatest_rid}
use Rattle.bosh_types.specs.declared.ending.Ending.{Ending}
use Rattle.bosh_client.specs.Machine.{copy}
use Rattle.bosh_client.specs.PlainClient.{PlainClient, id_of}
use Rattle.world_laws.specs.Manager.{PlainManager, session}

-- the ids of the requests that the client made, in their order
abbrev pub ids_of : PlainClient → List ℕ
ids_of c = map id_of c.requests

-- it made the request with this id, and took no answer of it
abbrev pub is_open : PlainClient → ℕ → Bool
is_open c rid = nat_le rid greatest_rid && is_some (copy c rid)

-- the lowest such id
abbrev pub lowest_open : PlainClient → Option ℕ
lowest_open c = find (is_open c) (ids_of c)

-- the id of its last request, if that is one
abbrev pub last_of : List ℕ → Option ℕ
last_of [] = None
last_of (id ∷ []) = Some id
last_of (id ∷ next ∷ ids) = last_of (next ∷ ids)

abbrev pub if_open : PlainClient → Option ℕ → Option ℕ
if_open c None = None
if_open c (Some rid) = if is_open c rid then Some rid else None

abbrev pub greatest_open : PlainClient → Option ℕ
greatest_open c = if_open c (last_of (ids_of c))

-- the number of the last answer for this id, after so many answers of which this was the last
abbrev pub last_after : ℕ → Option ℕ → ℕ → List (ℕ × List ℕ) → Option ℕ
last_after rid last count [] = last
last_after rid last count (answer ∷ answers) = last_after rid (if answer.0 == rid then Some (count + 1) else last) (count + 1) answers

-- answers count from 1
abbrev pub last_answer : ℕ → List (ℕ × List ℕ) → Option ℕ
last_answer rid answers = last_after rid None 0 answers

-- how the session ended, if it did
abbrev pub ending_in : Option PlainManager → Option Ending
ending_in None = None
ending_in (Some m) = (session m).ending

-- each answer that the client took is of its first id or a later one
abbrev pub AreFromFirst : PlainClient → Type 0
AreFromFirst c = All (λ answer. c.setup.first ≤ answer.0) c.answers
