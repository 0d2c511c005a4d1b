-- A clock that goes on where another stood.
use Rattle.std.specs.Prelude.{ℕ, ◌+◌, ◌-◌, ◌^◌, Option, Some, None, min}

-- the moment at which it stood, and what has passed since the other clock began, up to the end of the type
abbrev pub later_by : ℕ → ℕ → ℕ → ℕ
later_by begin stood now = min (stood + (now - begin)) (2 ^ 64 - 1)

-- told where the other clock tells its moment
abbrev pub later : ℕ → ℕ → Option ℕ → Option ℕ
later begin stood None = None
later begin stood (Some now) = Some (later_by begin stood now)
