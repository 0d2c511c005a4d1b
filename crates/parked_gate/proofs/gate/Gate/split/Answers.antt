use Rattle.std.proofs.Common.{rules, ap}
use Rattle.parked_gate.proofs.Numbering.{splits}
use Rattle.parked_gate.proofs.gate.Gate.split.Goals as goal

pub split_seat-seat-requires : goal.split_seat-seat-requires
split_seat-seat-requires g c =
    (search rules, search rules, splits _ _ _ _ c.draw_number-number.result (ap (λ m. m.0.gift) c.draw_number-number.ensures.gift))
