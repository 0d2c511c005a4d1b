use Rattle.std.proofs.Common.{◌+◌, arith, ◌∙◌, sym, ap, length, length-append}
use Rattle.bosh_client.specs.Places.{Places}
use Rattle.bosh_client.proofs.PlacesLemmas.{answered-push}
use Rattle.bosh_client.proofs.exchanges.Exchanges.push.Goals as goal

pub invariant_of-self-2 : goal.invariant_of-self-2
invariant_of-self-2 c =
    let next = ap (λ (p : Places). p.first + length p.slots) c.self.view_is in
    rw c.in_ok-push_back.ensures.items (record {
      some = c.self.invariant.some;
      within = simp length-append (omega (arith, c.requires, next));
      answered_is = c.self.invariant.answered_is ∙ sym (answered-push c.self.inside.slots.items c.args.body);
    })
