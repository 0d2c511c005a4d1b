-- A port in memory, which fails at listed calls.
use Rattle.std.specs.Prelude.{ℕ, ◌+◌, ◌-◌, ◌^◌, List, Contains, min}

-- the bytes that are left or were given, the numbers of the calls that are to fail, and how many calls were made and failed
pub record Memory : Type 0 where
  pub bytes : List ℕ
  pub failing : List ℕ
  pub calls : ℕ
  pub faults : ℕ

-- a count goes up to the end of its type, and stands still there
abbrev pub counted_up : ℕ → ℕ
counted_up count = min (count + 1) (2 ^ 64 - 1)

-- the next call is one of those that are to fail
abbrev pub IsNextToFail : Memory → Type 0
IsNextToFail memory = Contains memory.failing (counted_up memory.calls)
