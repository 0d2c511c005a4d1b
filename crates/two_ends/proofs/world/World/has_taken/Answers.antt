use Rattle.std.proofs.Common.{◌+◌, ◌<◌, ◌≤◌, ◌∙◌, ap, length, not, subst}
use Rattle.two_ends.proofs.TimingLemmas.{made_taken, no_copy, no_place, some_place, unmade_untaken}
use Rattle.two_ends.proofs.world.World.has_taken.Goals as goal

pub returns-then-is_none : goal.returns-then-is_none
returns-then-is_none c = λ w is from.
    let none = no_place c.place_in.result (c.is_none.ensures ∙ ap not c.if-is_none.true) in
    unmade_untaken c.args.self.now w is from c.args.rid
    (subst (λ l. c.args.self.now.first ≤ c.args.rid → c.args.self.now.first + length l ≤ c.args.rid) c.as_slice.ensures.value (c.place_in.ensures.none none))

pub returns : goal.returns
returns c = λ w is from.
    let of = some_place c.place_in.result _ (c.is_none.ensures ∙ ap not c.if-is_none.false) c.place_in.ensures.some in
    no_copy c.copy.result _ c.is_none-2.result c.is_none-2.ensures (c.copy.ensures w.client is.plain.rest.client)
    ∙ made_taken c.args.self.now w is c.args.rid of.0 (of.1).0 (subst (λ l. of.0 < length l) c.as_slice.ensures.value (of.1).1)
