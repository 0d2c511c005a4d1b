use Rattle.std.proofs.Common.{◌≡◌, All, subst, sym}
use Rattle.parked_gate.specs.Passes.{gate_of}
use Rattle.bosh_server.specs.Fates.{IsOfHistory, IsSiteOf}
use Rattle.bosh_server.proofs.seat.LoopTools.stall.Goals as goal

pub invariant_of-result : goal.invariant_of-result
invariant_of-result g c =
    record {
      home = subst (λ y. gate_of y.directory ≡ g.J.Naming.home) (sym c.in_ok-yard.ensures) c.args.self.now.home;
      site = subst (λ y. ∥ IsSiteOf g.J.Naming.site y.hosts y.limits ∥₁) (sym c.in_ok-yard.ensures) c.args.self.now.site;
    }

pub invariant_of-self-2-clause-of_one : goal.invariant_of-self-2-clause-of_one
invariant_of-self-2-clause-of_one g c =
    subst (λ known. ∥ All (IsOfHistory known.seen) c.args.self.now.fates ∥₁) (sym c.split-own.ensures.old_same) c.args.self.now.of_one
