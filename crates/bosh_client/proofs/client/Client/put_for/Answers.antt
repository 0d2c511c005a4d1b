use Rattle.std.proofs.Common.{◌≡◌, ◌∙◌, ◌++◌, ◌∷◌, [], false, ap, refl}
use Rattle.std.specs.List.{count_by}
use Rattle.std.proofs.lemmas.Bool.Decides.{nat_tests}
use Rattle.std.proofs.Common.{arith}
use Rattle.bosh_client.specs.declared.outgoing.Outgoing.TheVariants.{Stanza}
use Rattle.bosh_client.specs.Machine.{is_full}
use Rattle.bosh_client.specs.Outgoing.{is_stanza}
use Rattle.bosh_client.specs.StandsFor.{StandsFor}
use Rattle.bosh_client.proofs.StepLemmas.{choose_no, does_same, queued_holds}
use Rattle.bosh_client.proofs.client.Client.put_for.Goals as goal

pub returns-clause-step : goal.returns-clause-step
unfolding StandsFor
returns-clause-step c = λ plain stands.
    let stanza = Stanza c.args.on c.args.stanza.now in
    let bytes = c.from_vec-bytes.ensures ∙ c.in_ok-from_slice.ensures.items in
    let queue = c.in_ok-push_stanza.ensures.after ∙ ap (λ b. c.args.self.now.queue ++ Stanza c.args.on b ∷ []) bytes in
    let few = ap (λ items. count_by is_stanza items) stands.queue_is in
    let full : is_full plain ≡ false = grind (arith, nat_tests, few) in
    does_same (choose_no _ _ _ full) (record { replies = refl; after = queued_holds c.args.self.now plain stanza _ stands queue refl (λ s. refl) })
