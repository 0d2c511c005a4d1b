use Rattle.std.proofs.Common.{rules, ap}
use Rattle.parked_gate.proofs.Numbering.{splits}
use Rattle.parked_gate.proofs.gate.Gate.try_split.Goals as goal

pub split_seat-newcomer-requires : goal.split_seat-newcomer-requires
split_seat-newcomer-requires g c =
    (search rules, search rules, splits _ _ _ _ c.in_ok-number.number (ap (λ m. m.0.gift) c.in_ok-number.ensures.gift))
