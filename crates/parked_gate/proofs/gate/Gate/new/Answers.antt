use Rattle.std.proofs.Common.{◌≡◌, [], length, sym, ap, ◌∙◌, subst}
use Rattle.std.proofs.lemmas.Grind.{merely}
use Rattle.parked_gate.specs.Histories.{calls_of}
use Rattle.parked_gate.specs.Rule.{first_view}
use Rattle.parked_gate.proofs.Lists.{calls_all}
use Rattle.parked_gate.proofs.Opening.{opens}
use Rattle.parked_gate.proofs.gate.Gate.new.Goals as goal

pub new-requires : goal.new-requires
new-requires g c =
    let object = g.O.Object in
    rw (c.count-count.ensures.length, c.in_default.ensures.items, c.new-slots.ensures.items, c.of-key.ensures)
    (opens object.history object.caller_of c.args.object c.requires)

pub invariant_of-pass : goal.invariant_of-pass
invariant_of-pass g c =
    let object = g.O.Object in
    let log = object.history c.args.object in
    let me = c.in-Ok.ensures.ok.4 ∙ ap (λ x. (first_view (object.history x), [])) c.of-key.ensures in
    record {
      rests = (ap (λ m. m.0.gift) me, ap (λ m. m.0.turn) me, ap (λ m. m.0.held) me, ap (λ m. m.0.met) me);
      empty = ap (λ m. m.1) me;
      numbered = ap (λ m. m.0.number) me;
      counted = c.count-count.ensures.length ∙ sym (ap (λ m. length m.0.seen) me);
      own = subst (λ m. calls_of object.caller_of 0 m.0.seen ≡ m.0.mine) (sym me) (calls_all object.caller_of 0 log c.requires);
      legal = merely (subst (λ m. object.is_legal m.0.seen) (sym me) c.count-count.ensures.legal);
    }
