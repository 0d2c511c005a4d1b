use Rattle.std.proofs.Common.{◌≡◌, ◌∙◌, ◌-◌, suc, arith, length}
use Rattle.two_ends.proofs.AskLemmas.{last_asked}
use Rattle.two_ends.proofs.world.World.greatest_open.Goals as goal

pub returns : goal.returns
returns c =
    let count : length c.args.self.now.sent.items ≡ suc (c.len-count.result - 1) = omega (arith, c.len-count.ensures, c.if-count-eq0.false) in
    λ w is. c.open_at.ensures w is ∙ last_asked c.args.self.now w is (c.len-count.result - 1) count
