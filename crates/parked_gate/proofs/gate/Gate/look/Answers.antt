use Rattle.std.proofs.Common.{◌≡◌, None, refl, sym, ap, ◌∙◌, subst, length, length-append}
use Rattle.std.proofs.lemmas.Grind.{merely}
use Rattle.parked_gate.specs.Histories.{calls_of}
use Rattle.parked_gate.proofs.WholeTurn.{ended, looks}
use Rattle.parked_gate.proofs.gate.Gate.look.Goals as goal

pub invariant_of-pass : goal.invariant_of-pass
invariant_of-pass g c =
    let object = g.O.Object in
    let pass = c.args.pass.now in
    let begun = c.begin-before.ensures.begun in
    let viewed = c.view-answer.ensures.viewed begun.0 (ap (λ m. m.1) begun.2) in
    let end = ended object.history object.caller_of pass.seat.me.0 pass.number begun.1 begun.0 begun.0 None _ _ _ begun.2 viewed.0 pass.numbered
    (begun.5 pass.number pass.numbered) refl c.finish.ensures.finished in
    record {
      rests = (ap (λ m. m.0.gift) end ∙ pass.rests.0, ap (λ m. m.0.turn) end, ap (λ m. m.0.held) end, ap (λ m. m.0.met) end ∙ pass.rests.3);
      empty = ap (λ m. m.1) end;
      numbered = ap (λ m. m.0.number) end ∙ pass.numbered;
      counted = viewed.3 ∙ sym (ap (λ m. length m.0.seen) end);
      own = subst (λ m. calls_of object.caller_of pass.number m.0.seen ≡ m.0.mine) (sym end) refl;
      legal = merely (subst (λ m. object.is_legal m.0.seen) (sym end) viewed.2);
    }

pub returns-clause-legal : goal.returns-clause-legal
returns-clause-legal g c =
    let object = g.O.Object in
    let pass = c.args.pass.now in
    let begun = c.begin-before.ensures.begun in
    let viewed = c.view-answer.ensures.viewed begun.0 (ap (λ m. m.1) begun.2) in
    let end = ended object.history object.caller_of pass.seat.me.0 pass.number begun.1 begun.0 begun.0 None _ _ _ begun.2 viewed.0 pass.numbered
    (begun.5 pass.number pass.numbered) refl c.finish.ensures.finished in
    subst (λ m. object.is_legal m.0.seen) (sym end) viewed.2

pub returns-clause-looked : goal.returns-clause-looked
returns-clause-looked g c =
    let object = g.O.Object in
    let pass = c.args.pass.now in
    let begun = c.begin-before.ensures.begun in
    let viewed = c.view-answer.ensures.viewed begun.0 (ap (λ m. m.1) begun.2) in
    looks object.history object.caller_of pass.seat.me.0 pass.number begun.1 begun.0 begun.0 None _ _ _ begun.2 viewed.0 pass.numbered
    (begun.5 pass.number pass.numbered) refl c.finish.ensures.finished refl begun.4 viewed.1

pub returns-clause-learns_once : goal.returns-clause-learns_once
returns-clause-learns_once g c =
    let object = g.O.Object in
    let pass = c.args.pass.now in
    let begun = c.begin-before.ensures.begun in
    let viewed = c.view-answer.ensures.viewed begun.0 (ap (λ m. m.1) begun.2) in
    let end = ended object.history object.caller_of pass.seat.me.0 pass.number begun.1 begun.0 begun.0 None _ _ _ begun.2 viewed.0 pass.numbered
    (begun.5 pass.number pass.numbered) refl c.finish.ensures.finished in
    ap (λ m. length m.0.learnt) end ∙ length-append pass.seat.me.0.learnt _
