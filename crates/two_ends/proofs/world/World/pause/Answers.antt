use Rattle.bosh_client.specs.Machine.{pause}
use Rattle.world_laws.specs.declared.seen.Word.TheVariants as words
use Rattle.world_laws.proofs.ClientLemmas.{pause_queues}
use Rattle.two_ends.proofs.RestLemmas.{queued_step}
use Rattle.two_ends.proofs.TurnLemmas.{IfOk-from}
use Rattle.two_ends.proofs.world.World.pause.Goals as goal

pub returns : goal.returns
returns c = IfOk-from c.refused.result _ _ (λ news it w is.
    queued_step c.args.self.now w is _ words.Pause c.in_ok-queued.queued (pause w.client c.args.seconds) (c.in_ok-queued.ensures.step w.client is.rest.client) (pause_queues w.client c.args.seconds) news it) c.refused.ensures
