-- Statuses among others.
use Rattle.std.proofs.Common.{ℕ, zero, suc, [], ◌∷◌, Contains, arith, lit<}

-- the statuses of serving are among those of the command
pub of_command : (x : ℕ) → Contains (0 ∷ 4 ∷ 5 ∷ 6 ∷ 7 ∷ 8 ∷ []) x → Contains (0 ∷ 2 ∷ 4 ∷ 5 ∷ 6 ∷ 7 ∷ 8 ∷ []) x
of_command x (zero, lt, e) = (0, lit< tt, e)
of_command x (suc k, lt, e) = (suc (suc k), omega (arith, lt), e)

-- and so are those of a text that is given
pub of_given : (x : ℕ) → Contains (0 ∷ 5 ∷ []) x → Contains (0 ∷ 2 ∷ 4 ∷ 5 ∷ 6 ∷ 7 ∷ 8 ∷ []) x
of_given x (zero, lt, e) = (0, lit< tt, e)
of_given x (suc zero, lt, e) = (3, lit< tt, e)
of_given x (suc (suc k), lt, e) = absurd (omega (arith, lt))

-- those of telling how many links were served are among those of serving
pub of_end : (x : ℕ) → Contains (0 ∷ 4 ∷ 5 ∷ 6 ∷ []) x → Contains (0 ∷ 4 ∷ 5 ∷ 6 ∷ 7 ∷ 8 ∷ []) x
of_end x (zero, lt, e) = (0, lit< tt, e)
of_end x (suc zero, lt, e) = (1, lit< tt, e)
of_end x (suc (suc zero), lt, e) = (2, lit< tt, e)
of_end x (suc (suc (suc zero)), lt, e) = (3, lit< tt, e)
of_end x (suc (suc (suc (suc k))), lt, e) = absurd (omega (arith, lt))
