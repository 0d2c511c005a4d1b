use Rattle.std.proofs.Common.{◌∙◌, ◌++◌, ◌∷◌, [], ℕ, List, ap, subst, refl, arith}
use Rattle.body_writer.specs.Request.{request_text}
use Rattle.bosh_client.specs.declared.exchanges.Slot.TheVariants.{Open}
use Rattle.bosh_client.specs.declared.replies.Next.TheVariants.{Request}
use Rattle.bosh_client.specs.declared.setup.ClientSetup.{ClientSetup}
use Rattle.bosh_client.specs.PlainClient.{Made}
use Rattle.bosh_client.specs.Requests.{creation_parts}
use Rattle.bosh_client.specs.StandsFor.{HoldsKeys, StandsFor}
use Rattle.bosh_client.proofs.StepLemmas.{requested_holds}
use Rattle.bosh_client.proofs.client.Client.create.Goals as goal

pub returns-clause-step : goal.returns-clause-step
unfolding StandsFor
returns-clause-step c = λ plain stands none absent.
    let client = c.args.self.now in
    let request : Made = record { items = []; parts = creation_parts plain.setup } in
    let bytes = c.in_ok-body.ensures ∙ c.in_ok-write_request.ensures ∙ ap request_text (c.in_ok-parts.ensures plain stands none) in
    let first = ap (λ (s : ClientSetup). s.first) stands.setup_is in
    let places = c.in_ok-push.ensures.after ∙ ap (λ (b : List ℕ). record client.exchanges { slots = client.exchanges.slots ++ Open b ∷ [] }) bytes in
    record {
      replies = ap (λ (n : ℕ). Request n c.in_ok-sent.sent) first ∙ ap (λ (b : List ℕ). Request plain.setup.first b) (c.in_ok-sent.ensures ∙ bytes);
      after =
          requested_holds client plain request c.push.new.self client.queue client.keys stands (omega (arith, none)) places refl (omega arith)
          (subst (λ (n : ℕ). HoldsKeys client.keys plain.setup n) (omega (arith, none)) stands.keys);
    }
