use Rattle.bosh_client.specs.Machine.{close_stream}
use Rattle.world_laws.specs.declared.seen.Word.TheVariants as words
use Rattle.world_laws.proofs.ClientLemmas.{close_queues}
use Rattle.two_ends.proofs.RestLemmas.{queued_step}
use Rattle.two_ends.proofs.TurnLemmas.{IfOk-from}
use Rattle.two_ends.proofs.world.World.stop_on.Goals as goal

pub returns : goal.returns
returns c = IfOk-from c.refused.result _ _ (λ news it w is.
    queued_step c.args.self.now w is _ words.StopOn c.in_ok-queued.queued (close_stream w.client c.args.stream) (c.in_ok-queued.ensures.step w.client is.rest.client)
    (close_queues w.client c.args.stream) news it) c.refused.ensures
