use Rattle.std.proofs.Common.{◌∙◌, sym, refl}
use Rattle.bosh_client.specs.declared.outgoing.Outgoing.TheVariants.{Terminate}
use Rattle.bosh_client.specs.StandsFor.{StandsFor}
use Rattle.bosh_client.proofs.StepLemmas.{accepted_holds, choose_no, does_same}
use Rattle.bosh_client.proofs.StreamLemmas.{closing_terminate}
use Rattle.bosh_client.proofs.client.Client.terminate.Goals as goal

pub returns-clause-step : goal.returns-clause-step
unfolding StandsFor
returns-clause-step c = λ plain stands.
    does_same (choose_no _ _ _ (sym (c.is_over.ensures plain stands) ∙ c.if-is_over.false))
    (record { replies = refl; after = accepted_holds c.args.self.now plain Terminate _ _ _ stands c.in_ok-push_other.ensures.after refl (sym (closing_terminate plain)) })
