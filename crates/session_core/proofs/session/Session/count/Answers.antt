use Rattle.std.proofs.Common.{◌∙◌, ℕ, ◌+◌, nat_lt, ap}
use Rattle.session_core.specs.StandsFor.{StandsFor}
use Rattle.session_core.proofs.CountedLemmas.{counted_is, limit_is, with_cost_holds}
use Rattle.session_core.proofs.session.Session.count.Goals as goal

pub returns : goal.returns
unfolding StandsFor
returns c = λ plain stands room.
    let sum =
    c.sum_within-self.ensures
    (ap (λ (n : ℕ). nat_lt n (c.args.self.now.counted + c.args.cost)) (limit_is stands)
    ∙ ap (λ (n : ℕ). nat_lt plain.limit (n + c.args.cost)) (counted_is stands) ∙ room) in
    with_cost_holds c.args.self.now plain _ c.args.cost stands (sum ∙ ap (λ (n : ℕ). n + c.args.cost) (counted_is stands))
