use Rattle.std.proofs.Common.{◌≡◌, ◌∙◌, ◌-◌, true, false, nat_lt, sym, ap, arith}
use Rattle.std.specs.Option.{option_copied}
use Rattle.std.proofs.lemmas.Bool.Decides.{nat_tests}
use Rattle.bosh_client.specs.declared.agreed.Agreed.{Agreed}
use Rattle.bosh_client.specs.PlainClient.{lowest, next_id}
use Rattle.bosh_client.specs.StandsFor.{StandsFor}
use Rattle.bosh_client.proofs.DueLemmas.{ack_absent, ack_there, same_some}
use Rattle.bosh_client.proofs.FoundLemmas.{lowest_is}
use Rattle.bosh_client.proofs.client.Client.ack_for.Goals as goal

pub returns-then-lowest-value : goal.returns-then-lowest-value
unfolding StandsFor
returns-then-lowest-value c = λ plain a stands is rid.
    let test : nat_lt (lowest plain) (next_id plain) ≡ false = grind (arith, nat_tests, lowest_is stands.requests, c.lowest-lowest.ensures.value, c.value.ensures.value, rid, c.if-lowest-value.true) in
    ack_absent a.acks (nat_lt (lowest plain) (next_id plain)) (lowest plain - 1) test

pub returns : goal.returns
unfolding StandsFor
returns c = λ plain a stands is rid.
    let test : nat_lt (lowest plain) (next_id plain) ≡ true = grind (arith, nat_tests, lowest_is stands.requests, c.lowest-lowest.ensures.value, c.value.ensures.value, rid, c.if-lowest-value.false) in
    let same : c.in_ok-agreed.agreed.now ≡ a = same_some (sym (ap option_copied c.in_ok-agreed.was) ∙ c.as_ref.ensures.value ∙ stands.agreed_is ∙ is) in
    ack_there a.acks (nat_lt (lowest plain) (next_id plain)) _ (lowest plain - 1) (sym (ap (λ (x : Agreed). x.acks) same) ∙ c.if-not-agreed.false) test
    (ap (λ n. n - 1) (c.lowest-lowest.ensures.value ∙ lowest_is stands.requests))
