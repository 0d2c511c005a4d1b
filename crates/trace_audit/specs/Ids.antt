-- Where an id stands among ids that go on by one.
use Rattle.std.specs.Prelude.{ℕ, ◌-◌, ◌==◌, nat_lt, Bool, false, List, [], ◌∷◌, slice_get, Option, None, Some, if◌then◌else◌}
use Rattle.trace_audit.specs.declared.bodies.Posted.{Posted}

-- the id of the first request
abbrev pub first_id : List Posted → Option ℕ
first_id [] = None
first_id (posted ∷ others) = Some posted.rid

-- how many ids lie between the first and this one, where it isn't lower
abbrev pub distance : Option ℕ → ℕ → Option ℕ
distance None rid = None
distance (Some first) rid = if nat_lt rid first then None else Some (rid - first)

-- what stands at the place, if it is one and the list reaches so far
abbrev pub stands_at : {X : Type 0} → List X → Option ℕ → Option X
stands_at xs None = None
stands_at xs (Some place) = slice_get xs place

-- what stands there is marked
abbrev pub is_marked : List Bool → ℕ → Bool
is_marked marks place = elim (slice_get marks place) [ None ↦ false | Some mark ↦ mark ]

-- what stands there is the request with this id
abbrev pub has_at : List Posted → ℕ → ℕ → Bool
has_at sent place rid = elim (slice_get sent place) [ None ↦ false | Some posted ↦ posted.rid == rid ]
