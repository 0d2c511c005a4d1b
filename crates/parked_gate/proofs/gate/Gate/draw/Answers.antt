use Rattle.std.proofs.Common.{rules, arith, ap, ◌∙◌}
use Rattle.parked_gate.proofs.Turns.{draws}
use Rattle.parked_gate.proofs.gate.Gate.draw.Goals as goal

pub compare_exchange-found-requires : goal.compare_exchange-found-requires
compare_exchange-found-requires g c =
    let same = c.loop.invariant.3 in (
      search rules,
      search rules,
      draws _ _ _ _ _ _ _ (ap (λ m. m.0.turn) same ∙ c.requires.none) (ap (λ m. m.0.held) same ∙ c.requires.empty) (omega arith),
    )
