use Rattle.std.proofs.Common.{◌∙◌, ap, length}
use Rattle.std.specs.Prelude.{is_some}
use Rattle.two_ends.specs.Summed.{given_now}
use Rattle.two_ends.proofs.CountLemmas.{counted_step}
use Rattle.two_ends.proofs.world.World.step.Goals as goal

pub returns : goal.returns
returns c = λ w is.
    counted_step c.args.self.now w is c.args.event c.requires c.events_are_counted.ensures c.in_ok-seen.seen c.happen.new.self (c.in_ok-seen.ensures w is.plain)
    c.put_by-put.result c.given_since-given.result c.put_by-put.ensures
    (c.given_since-given.ensures
    ∙ ap (λ b. given_now b c.is_some-is_open.result c.len-greeting.result c.given_by-given.result) c.is_some-was_open.ensures
    ∙ ap (λ b. given_now (is_some c.args.self.now.manager) b c.len-greeting.result c.given_by-given.result) c.is_some-is_open.ensures
    ∙ ap (λ n. given_now (is_some c.args.self.now.manager) (is_some c.happen.new.self.manager) n c.given_by-given.result) c.len-greeting.ensures
    ∙ ap (λ n. given_now (is_some c.args.self.now.manager) (is_some c.happen.new.self.manager) (length c.args.self.now.site.greeting) n) c.given_by-given.ensures)
    c.as_slice.result.now c.as_slice.ensures c.after-self.result c.after-self.ensures
