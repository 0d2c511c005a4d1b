-- The plain keep: every answer that was ever put, and which of them are kept, XEP-0124 sections 9.2 and 14.3.
use Rattle.std.specs.Prelude.{◌≡◌, ℕ, ◌+◌, ◌-◌, ◌&&◌, nat_lt, min, max, if◌then◌else◌, List, [], ◌∷◌, ◌++◌, Option, Some, None, IsSome, ◌<◌, ⊤}
use Rattle.bosh_types.specs.ById.{at_id}
use Rattle.bosh_types.specs.declared.kept.KeptAnswer.{KeptAnswer}

-- every id and its answer, in the order of putting; the ids up to which answers were acknowledged, 0 where none was;
-- how many of the last ids have their answers kept
pub record PlainKeep : Type 0 where
  pub put : List (ℕ × KeptAnswer)
  pub acknowledged : ℕ
  pub size : ℕ

-- nothing was put
abbrev pub new_keep : ℕ → PlainKeep
new_keep size = record { put = []; acknowledged = 0; size = size }

-- the id of the last pair, and this one where there is none
abbrev pub last_after : ℕ → List (ℕ × KeptAnswer) → ℕ
last_after rid [] = rid
last_after rid (pair ∷ pairs) = last_after pair.0 pairs

-- the id that was put last, 0 where none was
abbrev pub last_id : List (ℕ × KeptAnswer) → ℕ
last_id pairs = last_after 0 pairs

-- ids are put one after the other, from any first one on
abbrev pub IsNextId : List (ℕ × KeptAnswer) → ℕ → Type 0
IsNextId [] rid = ⊤
IsNextId (pair ∷ pairs) rid = rid ≡ last_id (pair ∷ pairs) + 1

-- the answer of an id, where it is among the last `size` ids and wasn't acknowledged
abbrev pub kept_at : PlainKeep → ℕ → Option KeptAnswer
kept_at plain rid =
    if nat_lt plain.acknowledged rid && nat_lt (last_id plain.put) (rid + plain.size) then at_id plain.put rid else None

-- the least id whose answer is kept, and none exactly where no answer is
abbrev pub IsLowestKept : PlainKeep → Option ℕ → Type 0
IsLowestKept plain None = (rid : ℕ) → kept_at plain rid ≡ None
IsLowestKept plain (Some rid) =
    IsSome (kept_at plain rid) × ((lower : ℕ) → lower < rid → kept_at plain lower ≡ None)

-- what is kept no longer once this id is put
abbrev pub falls_out : PlainKeep → ℕ → Option KeptAnswer
falls_out plain rid = kept_at plain (rid - plain.size)

-- one more answer was put
abbrev pub after_put : PlainKeep → ℕ → KeptAnswer → PlainKeep
after_put plain rid answer = record plain { put = plain.put ++ (rid, answer) ∷ [] }

-- the answers up to this id were acknowledged: an answer that is put later is not
abbrev pub after_ack : PlainKeep → ℕ → PlainKeep
after_ack plain rid = record plain { acknowledged = max plain.acknowledged (min rid (last_id plain.put)) }
