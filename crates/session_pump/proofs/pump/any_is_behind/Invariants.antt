use Rattle.std.specs.Prelude.{◌≡◌, drop}
use Rattle.std.specs.List.{list_any}
use Rattle.session_pump.proofs.pump.any_is_behind.Given as goal

abbrev pub invariant-loop-stand : goal.invariant-loop-stand
invariant-loop-stand g l = list_any (λ stand. stand.is_behind) l.stands ≡ list_any (λ stand. stand.is_behind) (drop l.stand-index l.stands)
