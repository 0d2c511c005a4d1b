use Rattle.std.proofs.Common.{arith, length-set}
use Rattle.bosh_client.specs.declared.exchanges.Slot.TheVariants.{Answered}
use Rattle.bosh_client.proofs.PlacesLemmas.{answered-set}
use Rattle.bosh_client.proofs.exchanges.Exchanges.fill.Goals as goal

pub invariant_of-self : goal.invariant_of-self
invariant_of-self c =
    let slots = c.self.inside.slots.items in
    let slot = Answered c.args.payloads c.args.terminal in
    record {
      some = c.self.invariant.some;
      within = omega (arith, c.self.invariant.within, length-set slots c.in-Some.ahead slot);
      answered_is = c.answered_from-self-inside.ensures (omega (arith, c.self.invariant.answered_is, answered-set slots c.in-Some.ahead c.args.payloads c.args.terminal));
    }
