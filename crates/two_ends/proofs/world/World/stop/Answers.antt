use Rattle.bosh_client.specs.Machine.{terminate}
use Rattle.world_laws.specs.declared.seen.Word.TheVariants as words
use Rattle.world_laws.proofs.ClientLemmas.{terminate_queues}
use Rattle.two_ends.proofs.RestLemmas.{queued_step}
use Rattle.two_ends.proofs.TurnLemmas.{IfOk-from}
use Rattle.two_ends.proofs.world.World.stop.Goals as goal

pub returns : goal.returns
returns c = IfOk-from c.refused.result _ _ (λ news it w is.
    queued_step c.args.self.now w is _ words.Stop c.in_ok-queued.queued (terminate w.client) (c.in_ok-queued.ensures.step w.client is.rest.client) (terminate_queues w.client) news it) c.refused.ensures
