use Rattle.std.proofs.Common.{◌≡◌, ℕ, ◌<◌, ◌≤◌, None, get_or, length}
use Rattle.reply_keep.proofs.keep.clear_from.Given as goal

-- the places from the first one on are empty so far, and the others as they were
abbrev pub invariant-loop-place : goal.invariant-loop-place
invariant-loop-place l = record {
  emptied : (k : ℕ) → l.from ≤ k → k < l.place → get_or l.places.items k None ≡ None;
  rest : (k : ℕ) → k < l.from → get_or l.places.items k None ≡ get_or l.fn.places.items k None;
  length : length l.places.items ≡ length l.fn.places.items;
  capacity : l.places.capacity ≡ l.fn.places.capacity;
}
