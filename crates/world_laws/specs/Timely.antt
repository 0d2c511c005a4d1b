-- Events in which no copy of a request comes after its answer was taken.
use Rattle.std.specs.Prelude.{◌≡◌, ⊤, ◌&&◌, Bool, true, None, List, [], ◌∷◌, is_none}
use Rattle.bosh_client.specs.PlainClient.{taken}
use Rattle.world_laws.specs.declared.event.WorldEvent.{WorldEvent}
use Rattle.world_laws.specs.declared.event.WorldEvent.TheVariants as events
use Rattle.world_laws.specs.Steps.{step}
use Rattle.world_laws.specs.World.{PlainWorld}

-- the client has taken no answer of the copy that comes
abbrev pub IsInTime : PlainWorld → WorldEvent → Type 0
IsInTime w (events.Carry rid) = taken w.client rid ≡ None
IsInTime w _ = ⊤

abbrev pub IsTimely : PlainWorld → List WorldEvent → Type 0
IsTimely w [] = ⊤
IsTimely w (event ∷ events) = IsInTime w event × IsTimely (step w event).after events

-- the same as a test
abbrev pub is_in_time : PlainWorld → WorldEvent → Bool
is_in_time w (events.Carry rid) = is_none (taken w.client rid)
is_in_time w _ = true

abbrev pub is_timely : PlainWorld → List WorldEvent → Bool
is_timely w [] = true
is_timely w (event ∷ events) = is_in_time w event && is_timely (step w event).after events
