use Rattle.std.proofs.Common.{◌∙◌, ◌<◌, ◌≤◌, arith, length, sym}
use Rattle.two_ends.proofs.AskLemmas.{finds_it, finds_none, look_begins, looks_on}
use Rattle.two_ends.proofs.world.World.lowest_open.Goals as goal

pub loop-place-init : goal.loop-place-init
loop-place-init c = look_begins c.args.self.now

pub loop-place-preserved : goal.loop-place-preserved
loop-place-preserved c =
    let within : c.loop-place.place < length c.args.self.now.sent.items = omega (arith, c.loop-place-test.true, c.len-place-end.ensures) in
    looks_on c.args.self.now c.loop-place.place within c.loop-place.invariant (λ w is. sym c.in_default.is ∙ c.open_at.ensures w is)

pub returns-in-Some : goal.returns-in-Some
returns-in-Some c =
    let within : c.loop-place.place < length c.args.self.now.sent.items = omega (arith, c.loop-place-test.true, c.len-place-end.ensures) in
    λ w is. finds_it c.args.self.now c.loop-place.place c.in-Some.rid within c.loop-place.invariant w is (sym c.in-Some.is ∙ c.open_at.ensures w is)

pub returns : goal.returns
returns c =
    let past : length c.args.self.now.sent.items ≤ c.loop-place.place = omega (arith, c.loop-place-test.false, c.len-place-end.ensures) in
    finds_none c.args.self.now c.loop-place.place past c.loop-place.invariant
