use Rattle.std.proofs.Common.{◌∙◌, sym, ap, refl}
use Rattle.bosh_client.specs.declared.outgoing.Outgoing.TheVariants.{Pause}
use Rattle.bosh_client.specs.Machine.{allows_pause}
use Rattle.bosh_client.specs.StandsFor.{StandsFor}
use Rattle.bosh_client.proofs.StepLemmas.{choose_no, choose_yes, does_same, queued_holds}
use Rattle.bosh_client.proofs.client.Client.pause.Goals as goal

pub returns-clause-step : goal.returns-clause-step
unfolding StandsFor
returns-clause-step c = λ plain stands.
    let allowed = ap (λ a. allows_pause a c.args.seconds) (sym stands.agreed_is) ∙ sym c.allows_pause.ensures ∙ c.if-not-allows_pause.false in
    does_same (choose_no _ _ _ (sym (c.is_over.ensures plain stands) ∙ c.if-is_over.false) ∙ choose_yes _ _ _ allowed)
    (record { replies = refl; after = queued_holds c.args.self.now plain (Pause c.args.seconds) _ stands c.in_ok-push_other.ensures.after refl (λ s. refl) })
