use Rattle.std.proofs.Common.{◌≡◌, ◌∙◌, sym, ap, arith, nat_lt}
use Rattle.bosh_client.specs.declared.setup.ClientSetup.{ClientSetup}
use Rattle.bosh_client.specs.PlainClient.{next_id}
use Rattle.bosh_client.specs.StandsFor.{StandsFor}
use Rattle.bosh_client.proofs.FoundLemmas.{made_is, made_test, next_is, unmade_low}
use Rattle.bosh_client.proofs.client.Client.is_made.Goals as goal

pub returns-then-value : goal.returns-then-value
unfolding StandsFor
returns-then-value c = λ plain stands.
    sym (unmade_low plain c.args.rid stands.requests.ids (omega (arith, ap (λ (s : ClientSetup). s.first) stands.setup_is)))

pub returns-in-Some : goal.returns-in-Some
unfolding StandsFor
returns-in-Some c = λ plain stands.
    let next : c.value-in-Some-2.result ≡ next_id plain = omega (arith, next_is stands.requests, c.in-Some.ensures, c.value-in-Some-2.ensures.value) in
    ap (λ n. nat_lt n c.value-in-Some-2.result) c.value-in-Some.ensures.value
    ∙ made_test plain c.args.rid c.value-in-Some-2.result stands.requests.ids (omega (arith, ap (λ (s : ClientSetup). s.first) stands.setup_is)) next

pub returns-in-None : goal.returns-in-None
unfolding StandsFor
returns-in-None c = λ plain stands.
    sym (made_is plain c.args.rid stands.requests.ids (omega (arith, ap (λ (s : ClientSetup). s.first) stands.setup_is)) (omega (arith, next_is stands.requests, c.in-None.ensures)))
