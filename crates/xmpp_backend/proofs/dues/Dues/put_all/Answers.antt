use Rattle.std.proofs.Common.{◌≡◌, ◌∷◌, ◌-◌, ◌∙◌, ap, sym, arith, length}
use Rattle.xmpp_backend.specs.Dues.{owes, owes_all}
use Rattle.xmpp_backend.proofs.OpenedLemmas.{pair_is}
use Rattle.xmpp_backend.proofs.dues.Dues.put_all.Goals as goal

pub loop-owed-preserved : goal.loop-owed-preserved
loop-owed-preserved c =
    let rest = c.pop_front.new.self.items in
    let whole = ap length c.in-Some.ensures.items in
    record {
      room = omega (arith, c.put.ensures.room, c.loop-owed.invariant.room, whole);
      owes = ap (owes_all rest) (c.put.ensures.owes ∙ ap (λ stanza. owes stanza c.loop-owed.self.dues) (pair_is c.in-Some.owed _ _ c.into_parts-wire.ensures.wire c.into_parts-wire.ensures.text))
          ∙ ap (λ stanzas. owes_all stanzas c.loop-owed.self.dues) (sym c.in-Some.ensures.items) ∙ c.loop-owed.invariant.owes;
    }
