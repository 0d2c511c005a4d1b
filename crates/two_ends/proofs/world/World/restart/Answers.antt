use Rattle.bosh_client.specs.Machine.{restart}
use Rattle.world_laws.specs.declared.seen.Word.TheVariants as words
use Rattle.world_laws.proofs.ClientLemmas.{restart_queues}
use Rattle.two_ends.proofs.RestLemmas.{queued_step}
use Rattle.two_ends.proofs.TurnLemmas.{IfOk-from}
use Rattle.two_ends.proofs.world.World.restart.Goals as goal

pub returns : goal.returns
returns c = IfOk-from c.refused.result _ _ (λ news it w is.
    queued_step c.args.self.now w is _ words.Restart c.in_ok-queued.queued (restart w.client) (c.in_ok-queued.ensures.step w.client is.rest.client) (restart_queues w.client) news it) c.refused.ensures
