use Rattle.std.proofs.Common.{subst, sym}
use Rattle.bosh_client.specs.Machine.{add}
use Rattle.bosh_client.specs.Runs.{IsHost}
use Rattle.bosh_client.specs.StandsFor.{Does}
use Rattle.world_laws.specs.declared.seen.Word.TheVariants as words
use Rattle.world_laws.proofs.ClientLemmas.{add_queues}
use Rattle.two_ends.proofs.RestLemmas.{queued_step}
use Rattle.two_ends.proofs.TurnLemmas.{IfOk-from}
use Rattle.two_ends.proofs.world.World.add.Goals as goal

pub add-requires : goal.add-requires
add-requires c = subst IsHost (sym c.as_slice.ensures) c.requires

pub returns : goal.returns
returns c = IfOk-from c.refused.result _ _ (λ news it w is.
    queued_step c.args.self.now w is _ words.Add c.in_ok-queued.queued (add w.client c.args.to)
    (subst (λ s. Does c.add.new.self c.in_ok-queued.queued (add w.client s)) c.as_slice.ensures (c.in_ok-queued.ensures.step w.client is.rest.client))
    (add_queues w.client c.args.to) news it) c.refused.ensures
