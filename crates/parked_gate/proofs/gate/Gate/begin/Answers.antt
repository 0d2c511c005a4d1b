use Rattle.std.proofs.Common.{◌≡◌, ℕ, Some, ap, ◌∙◌, subst}
use Rattle.parked_gate.specs.Histories.{StartsWith, calls_of}
use Rattle.parked_gate.specs.Steps.{learned}
use Rattle.parked_gate.proofs.gate.Gate.begin.Goals as goal

pub learn-requires-clause-held : goal.learn-requires-clause-held
learn-requires-clause-held g c =
    let taken = c.take.ensures.taken in (g.O.Object.history taken.0, ap (λ m. m.0.held) taken.2)

pub returns-clause-begun : goal.returns-clause-begun
returns-clause-begun g c =
    let taken = c.take.ensures.taken in
    let log = g.O.Object.history taken.0 in
    let learnt = c.learn.ensures.learnt log (ap (λ m. m.0.held) taken.2) in (
      taken.0,
      taken.1,
      learnt.0 ∙ ap (λ m. (learned m.0 log, m.1)) taken.2,
      learnt.1,
      subst (λ m. StartsWith log m.0.seen) taken.2 learnt.2,
      subst (λ m. (n : ℕ) → m.0.number ≡ Some n → calls_of g.O.Object.caller_of n log ≡ m.0.mine) taken.2 learnt.3,
    )
