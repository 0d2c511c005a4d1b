-- For how many links there is room.
use Rattle.std.specs.Prelude.{ℕ, ◌-◌, max, min}

-- so many descriptors are enough for so many links: 64 are kept, there is always room for one, and for 65,536 at most
abbrev pub links_within : ℕ → ℕ
links_within descriptors = min (max (descriptors - 64) 1) 65536
