-- What a request carries is what it took of the queue.
use Rattle.std.proofs.Common.{inl, inr, min, List, [], ◌∷◌, length, Some, None, refl}
use Rattle.std.specs.Prelude.{Option}
use Rattle.std.specs.List.{All}
use Rattle.std.proofs.lemmas.List.Elements.{All-append, All-cons, All-nil}
use Rattle.bosh_types.specs.Limits.{most_children}
use Rattle.bosh_client.specs.declared.agreed.Agreed.{Agreed}
use Rattle.bosh_client.specs.declared.outgoing.Outgoing.{Outgoing}
use Rattle.bosh_client.specs.declared.outgoing.Outgoing.TheVariants as outgoing
use Rattle.bosh_client.specs.declared.setup.ClientSetup.{ClientSetup}
use Rattle.bosh_client.specs.Machine.{new_client, next_made}
use Rattle.bosh_client.specs.Outgoing.{front_of, longest_front}
use Rattle.bosh_client.specs.PlainClient.{PlainClient, queued}
use Rattle.bosh_client.specs.Promises.{Carries, IsAlone}
use Rattle.bosh_client.specs.Requests.{agreed}
use Rattle.bosh_client.specs.Runs.{Call, after, client_after, step}
use Rattle.bosh_client.proofs.Fronts.{fits_parts, longest_fits}
use Rattle.bosh_client.proofs.RunLemmas.{step_by}

front_alone : (items : List Outgoing) → IsAlone (front_of items)
front_alone [] = inl (refl, refl)
front_alone (outgoing.Stanza on bytes ∷ items) =
    let all = outgoing.Stanza on bytes ∷ items in
    let parts = fits_parts (longest_front (min most_children (length all)) all) (longest_fits (min most_children (length all)) all) in
    inl (parts.0, parts.2)
front_alone (outgoing.Restart ∷ items) = inr (outgoing.Restart, refl)
front_alone (outgoing.Pause seconds ∷ items) = inr (outgoing.Pause seconds, refl)
front_alone (outgoing.Add to ∷ items) = inr (outgoing.Add to, refl)
front_alone (outgoing.Close stream ∷ items) = inr (outgoing.Close stream, refl)
front_alone (outgoing.Terminate ∷ items) = inr (outgoing.Terminate, refl)

next_carries : (c : PlainClient) (o : Option Agreed) → Carries (next_made c o)
next_carries c None = record { payloads = refl; restart = refl; pause = refl; stream = refl; to = refl; terminate = refl; alone = inl (refl, refl) }
next_carries c (Some a) = record { payloads = refl; restart = refl; pause = refl; stream = refl; to = refl; terminate = refl; alone = front_alone (queued c) }

carries_step : (c : PlainClient) (call : Call) → All Carries c.requests → All Carries (step c call).0.requests
carries_step c call all =
    step_by c (λ p. All Carries p.0.requests) (λ reply quiet. all) (λ item. all)
    (λ now due left next. All-append Carries c.requests (next_made c (agreed c) ∷ []) all (All-cons Carries (next_made c (agreed c)) [] (next_carries c (agreed c)) (All-nil Carries)))
    (λ rid t made none reads fine. all) (λ payload next. all) call

carries_after : (c : PlainClient) (calls : List Call) → All Carries c.requests → All Carries (after c calls).requests
carries_after c [] all = all
carries_after c (call ∷ calls) all = carries_after (step c call).0 calls (carries_step c call all)

pub requests_carry : (setup : ClientSetup) (calls : List Call) → All Carries (client_after setup calls).requests
requests_carry setup calls = carries_after (new_client setup) calls (All-nil Carries)
