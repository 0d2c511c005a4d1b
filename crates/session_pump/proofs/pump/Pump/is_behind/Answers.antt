use Rattle.std.proofs.Common.{◌∙◌, ap}
use Rattle.std.specs.List.{list_any}
use Rattle.session_pump.proofs.pump.Pump.is_behind.Goals as goal

pub returns : goal.returns
returns g c = c.any_is_behind.ensures ∙ ap (list_any (λ stand. stand.is_behind)) c.as_slice.ensures.value
