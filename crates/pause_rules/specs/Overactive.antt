-- When empty requests come too often, XEP-0124 sections 11 and 12.
use Rattle.std.specs.Prelude.{ℕ, ◌*◌, Bool, ◌&&◌, nat_le, nat_lt, not, if◌then◌else◌}
use Rattle.bosh_types.specs.declared.terms.Terms.{Terms}
use Rattle.pause_rules.specs.declared.mark.Mark.{Mark}
use Rattle.std.specs.Int.{abs_diff}

-- as many requests as the session holds are held before this one: it only makes the manager answer
abbrev pub is_crowded : Terms → ℕ → Bool
is_crowded terms held = nat_le terms.hold held

-- the request before was a poll too, and brought nothing
abbrev pub is_bare_poll : Mark → Bool
is_bare_poll prior = (not prior.creation && prior.empty) && prior.bare

-- an empty request that lets the manager answer nothing, in a polling session and in another
abbrev pub serves_nothing : Terms → ℕ → Mark → Bool
serves_nothing terms held prior = if terms.polled then is_bare_poll prior else is_crowded terms held

-- how far two requests lie apart, whichever came first
abbrev pub apart : Mark → Mark → ℕ
apart this prior = abs_diff this.arrived prior.arrived

-- it is empty, less than `polling` seconds apart from the request before it, and serves nothing
abbrev pub is_overactive : Terms → ℕ → Mark → Mark → Bool
is_overactive terms held this prior =
    (this.empty && nat_lt (apart this prior) (terms.polling * 1000)) && serves_nothing terms held prior
