use Rattle.std.proofs.Common.{◌≡◌, ℕ, ◌≤◌, None, get_or}
use Rattle.reply_keep.proofs.keep.last_filled.Given as goal

-- the places from this one on are empty
abbrev pub invariant-loop-place : goal.invariant-loop-place
invariant-loop-place l = (k : ℕ) → l.place ≤ k → get_or l.places.items k None ≡ None
