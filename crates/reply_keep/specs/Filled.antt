-- Places of which each is empty or has an answer.
use Rattle.std.specs.Prelude.{◌≡◌, ℕ, ◌<◌, List, Option, Some, None, IsSome, slice_index_or}
use Rattle.bosh_types.specs.declared.kept.KeptAnswer.{KeptAnswer}

-- the last place that has an answer, and none where all are empty
abbrev pub IsLastFilled : List (Option KeptAnswer) → Option ℕ → Type 0
IsLastFilled places None = (k : ℕ) → slice_index_or places k None ≡ None
IsLastFilled places (Some at) =
    IsSome (slice_index_or places at None) × ((k : ℕ) → at < k → slice_index_or places k None ≡ None)
