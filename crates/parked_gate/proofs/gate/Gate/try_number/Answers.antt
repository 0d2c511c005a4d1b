use Rattle.std.proofs.Common.{rules, ap, ◌∙◌}
use Rattle.parked_gate.proofs.Numbering.{numbers}
use Rattle.parked_gate.proofs.gate.Gate.try_number.Goals as goal

pub compare_exchange-found-requires : goal.compare_exchange-found-requires
compare_exchange-found-requires g c =
    let same = c.loop.invariant.1 in
    (search rules, search rules, numbers _ _ _ _ _ _ _ c.requires.number.0 (ap (λ m. m.0.number) same ∙ c.requires.number.1))
