-- Histories: lists of entries, each with the number of the pass that made it.
use Rattle.std.specs.Prelude.{◌≡◌, ◌==◌, ℕ, List, [], ◌∷◌, ◌++◌, length, filter, Option, Some, None, nat_lt, if◌then◌else◌}

module _ {E : Type 0} where
  -- a history begins with what was seen of it
  abbrev pub StartsWith : List E → List E → Type 0
  StartsWith log seen = (rest : List E) × (log ≡ seen ++ rest)

  -- the entries that the pass of this number made
  abbrev pub calls_of : (E → ℕ) → ℕ → List E → List E
  calls_of caller_of number log = filter (λ e. caller_of e == number) log

  -- the longer of two, and the first where neither is
  abbrev pub longer : List E → List E → List E
  longer xs ys = if nat_lt (length xs) (length ys) then ys else xs

  -- a history after a step: as before, or with one entry more, which is this pass's
  abbrev pub Appends : (E → ℕ) → ℕ → List E → Option E → List E → Type 0
  Appends caller_of number before None after = after ≡ before
  Appends caller_of number before (Some e) after = (after ≡ before ++ e ∷ []) × (caller_of e ≡ number)
