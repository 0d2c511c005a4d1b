use Rattle.std.proofs.Common.{All, subst, sym, ◌^◌, ◌-◌, ◌≡◌, length, min}
use Rattle.parked_gate.specs.Passes.{known}
use Rattle.bosh_server.specs.Fates.{IsFate, IsOfHistory}
use Rattle.bosh_server.proofs.FateLemmas.{all_more, counted_more}
use Rattle.bosh_server.proofs.seat.LoopTools.settle.Goals as goal

pub invariant_of-self-clause-counted : goal.invariant_of-self-clause-counted
invariant_of-self-clause-counted g c =
    subst (λ fates. c.saturating_add-self.result ≡ min (length fates) (2 ^ 64 - 1)) (sym c.push.ensures)
    (counted_more c.args.self.now.fates c.args.fate c.args.self.now.settled c.saturating_add-self.result c.args.self.now.counted c.saturating_add-self.ensures)

pub invariant_of-self-clause-true_of : goal.invariant_of-self-clause-true_of
invariant_of-self-clause-true_of g c =
    let P = IsFate g.L.Polled.left g.L.Polled.given g.L.Polled.closed g.L.Polled.faults g.J.Naming.site in
    subst (λ fates. ∥ All P fates ∥₁) (sym c.push.ensures) (all_more P c.args.self.now.fates c.args.fate c.args.self.now.true_of c.requires.is)

pub invariant_of-self-clause-of_one : goal.invariant_of-self-clause-of_one
invariant_of-self-clause-of_one g c =
    let P = IsOfHistory (known c.args.self.now.pass).seen in
    subst (λ fates. ∥ All P fates ∥₁) (sym c.push.ensures) (all_more P c.args.self.now.fates c.args.fate c.args.self.now.of_one c.requires.of_one)
