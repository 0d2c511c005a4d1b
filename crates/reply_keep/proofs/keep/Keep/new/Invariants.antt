use Rattle.std.proofs.Common.{◌≡◌, ℕ, None, get_or, length}
use Rattle.reply_keep.proofs.keep.Keep.new.Given as goal

-- there are so many places, all of them empty
abbrev pub invariant-fill : goal.invariant-fill
invariant-fill l = (length l.answers.items ≡ l.counter) × (l.answers.capacity ≡ l.size) × ((k : ℕ) → get_or l.answers.items k None ≡ None)
