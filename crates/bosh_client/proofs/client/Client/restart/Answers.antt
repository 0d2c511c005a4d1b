use Rattle.std.proofs.Common.{◌∙◌, sym, refl}
use Rattle.bosh_client.specs.declared.outgoing.Outgoing.TheVariants.{Restart}
use Rattle.bosh_client.specs.StandsFor.{StandsFor}
use Rattle.bosh_client.proofs.StepLemmas.{choose_no, does_same, queued_holds}
use Rattle.bosh_client.proofs.client.Client.restart.Goals as goal

pub returns-clause-step : goal.returns-clause-step
unfolding StandsFor
returns-clause-step c = λ plain stands.
    does_same (choose_no _ _ _ (sym (c.is_over.ensures plain stands) ∙ c.if-is_over.false))
    (record { replies = refl; after = queued_holds c.args.self.now plain Restart _ stands c.in_ok-push_other.ensures.after refl (λ s. refl) })
