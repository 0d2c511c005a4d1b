use Rattle.std.proofs.Common.{All, subst, sym, ◌^◌, ◌-◌, ◌≡◌, length, min}
use Rattle.std.specs.List.{sum_by}
use Rattle.parked_gate.specs.Passes.{known}
use Rattle.bosh_server.specs.Fates.{IsFate, IsOfHistory}
use Rattle.bosh_server.proofs.FateLemmas.{all_more, of_longer, of_longer_each, summed_more}
use Rattle.bosh_server.proofs.ends.Ends.gather.Goals as goal

pub loop-preserved : goal.loop-preserved
loop-preserved g c =
    let P = All (IsFate g.L.Polled.left g.L.Polled.given g.L.Polled.closed g.L.Polled.faults g.J.Naming.site) in
    let end = c.take-fates.result in
    let old = (known c.loop.pass).seen in
    let joined = (known c.join.new.into).seen in
    record {
      next = tt;
      finite = tt;
      pass = c.join.ensures.pass;
      of_one = subst (λ roll. ∥ All (λ fates. All (IsOfHistory joined) fates) roll ∥₁) (sym c.push.ensures)
          (all_more (λ fates. All (IsOfHistory joined) fates) c.loop.roll end.fates
          (of_longer_each old joined c.loop.roll c.join.ensures.begins_with_this c.loop.invariant.of_one)
          (of_longer (known end.pass).seen joined end.fates c.join.ensures.begins_with_other end.of_one));
      home = subst (λ roll. c.saturating_add-home.result ≡ min (sum_by length roll) (2 ^ 64 - 1)) (sym c.push.ensures)
          (summed_more c.loop.roll end.fates c.loop.home end.settled c.saturating_add-home.result c.loop.invariant.home end.counted c.saturating_add-home.ensures);
      true_of = subst (λ roll. ∥ All P roll ∥₁) (sym c.push.ensures) (all_more P c.loop.roll end.fates c.loop.invariant.true_of end.true_of);
    }
