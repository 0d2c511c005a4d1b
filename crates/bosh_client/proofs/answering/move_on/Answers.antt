use Rattle.std.proofs.Common.{◌≡◌, ◌∙◌, ◌+◌, ap, arith, length, sym, subst, ℕ, List}
use Rattle.bosh_client.specs.Left.{left_of}
use Rattle.bosh_client.specs.Places.{Places}
use Rattle.bosh_client.specs.StandsFor.{HoldsRequests}
use Rattle.bosh_client.proofs.RequestLemmas.{moved, none_left}
use Rattle.bosh_client.proofs.answering.move_on.Goals as goal

pub loop-exchanges-preserved : goal.loop-exchanges-preserved
loop-exchanges-preserved c =
    let none = none_left c.loop-exchanges.inbox (sym c.is_empty.ensures ∙ c.loop-exchanges-test.true) in
    let left : left_of c.loop-exchanges.exchanges.slots ≡ length c.in-Some.payloads + left_of c.take_front.new.self.slots = ap (λ (p : Places). left_of p.slots) c.in-Some.ensures.some in (
      λ plain holds.
          moved c.loop-exchanges.exchanges c.take_front.new.self c.in-Some.payloads plain c.in-Some.ensures.some c.in-Some.ensures.moved
          (subst (λ (inbox : List (ℕ × List ℕ)). HoldsRequests c.loop-exchanges.exchanges inbox plain) none (c.loop-exchanges.invariant.0 plain holds)),
      omega (arith, left, ap length none, c.loop-exchanges.invariant.1),
    )
