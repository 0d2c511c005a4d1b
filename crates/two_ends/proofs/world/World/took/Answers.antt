use Rattle.two_ends.proofs.ReturnLemmas.{took_step}
use Rattle.two_ends.proofs.world.World.took.Goals as goal

pub returns : goal.returns
returns c = λ w is.
    let all = c.in_ok-hand_out_all.ensures w.client is.rest.client in
    took_step c.args.self.now w is c.hand_out_all.new.client all.1 c.args.before c.ended.result (c.ended.ensures _ all.1)
    c.new-seen.result.items c.hand_out_all.new.seen.items c.push_ended.new.seen.items c.new-seen.ensures.items all.0 c.in_ok-push_ended.ensures _ c.from_vec.ensures
