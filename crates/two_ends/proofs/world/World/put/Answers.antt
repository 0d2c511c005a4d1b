use Rattle.std.proofs.Common.{subst}
use Rattle.bosh_client.specs.Machine.{put}
use Rattle.bosh_client.specs.StandsFor.{Does}
use Rattle.world_laws.specs.declared.seen.Word.TheVariants as words
use Rattle.world_laws.proofs.ClientLemmas.{put_queues}
use Rattle.two_ends.proofs.RestLemmas.{queued_step}
use Rattle.two_ends.proofs.TurnLemmas.{IfOk-from}
use Rattle.two_ends.proofs.world.World.put.Goals as goal

pub returns : goal.returns
returns c = IfOk-from c.refused.result _ _ (λ news it w is.
    queued_step c.args.self.now w is _ words.Put c.in_ok-queued.queued (put w.client c.args.stanza)
    (subst (λ s. Does c.put.new.self c.in_ok-queued.queued (put w.client s)) c.as_slice.ensures (c.in_ok-queued.ensures.step w.client is.rest.client))
    (put_queues w.client c.args.stanza) news it) c.refused.ensures
