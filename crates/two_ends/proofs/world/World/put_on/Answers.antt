use Rattle.std.proofs.Common.{subst}
use Rattle.bosh_client.specs.Machine.{put_on}
use Rattle.bosh_client.specs.StandsFor.{Does}
use Rattle.world_laws.specs.declared.seen.Word.TheVariants as words
use Rattle.world_laws.proofs.ClientLemmas.{put_on_queues}
use Rattle.two_ends.proofs.RestLemmas.{queued_step}
use Rattle.two_ends.proofs.TurnLemmas.{IfOk-from}
use Rattle.two_ends.proofs.world.World.put_on.Goals as goal

pub returns : goal.returns
returns c = IfOk-from c.refused.result _ _ (λ news it w is.
    queued_step c.args.self.now w is _ words.PutOn c.in_ok-queued.queued (put_on w.client c.args.stream c.args.stanza)
    (subst (λ s. Does c.put_on.new.self c.in_ok-queued.queued (put_on w.client c.args.stream s)) c.as_slice.ensures (c.in_ok-queued.ensures.step w.client is.rest.client))
    (put_on_queues w.client c.args.stream c.args.stanza) news it) c.refused.ensures
