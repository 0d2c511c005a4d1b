use Rattle.std.proofs.Common.{◌≡◌, ◌∙◌, false, sym, ap, subst, arith}
use Rattle.std.specs.Prelude.{IfOk, nat_lt, not, is_some}
use Rattle.std.proofs.lemmas.Bool.Decides.{nat_tests}
use Rattle.bosh_types.specs.Rid.{greatest_rid}
use Rattle.bosh_client.specs.declared.replies.Next.{Next}
use Rattle.bosh_client.specs.Machine.{next_made, with_request}
use Rattle.bosh_client.specs.PlainClient.{PlainClient, next_id}
use Rattle.bosh_client.specs.Requests.{agreed}
use Rattle.bosh_client.specs.StandsFor.{Does, StandsFor}
use Rattle.bosh_client.proofs.DueLemmas.{or_neither, some_is}
use Rattle.bosh_client.proofs.FoundLemmas.{next_is}
use Rattle.bosh_client.proofs.StepLemmas.{choose_no}
use Rattle.bosh_client.proofs.client.Client.next_request.Goals as goal

pub returns-clause-step : goal.returns-clause-step
unfolding StandsFor
returns-clause-step c = λ plain stands.
    let ended = ap is_some (sym stands.end_is) ∙ sym c.is_some.ensures ∙ c.if-is_some.false in
    let due = ap not (sym (c.is_due.ensures plain stands) ∙ c.if-not-is_due.false) in
    let rid : c.in-Some.rid ≡ next_id plain = omega (arith, next_is stands.requests, c.in-Some.ensures) in
    let left : nat_lt greatest_rid (next_id plain) ≡ false = grind (arith, nat_tests, next_is stands.requests, c.in-Some.ensures) in
    let known = some_is (agreed plain) (ap is_some (sym stands.agreed_is) ∙ c.is_none.ensures ∙ ap not c.if-is_none.false) in
    let way = choose_no _ _ _ (or_neither _ _ ended due) ∙ choose_no _ _ _ left ∙ ap (λ a. with_request plain (next_made plain a)) known.1 in
    subst (λ (done : PlainClient × Next). IfOk c.go_on.result (λ reply. Does c.go_on.new.self reply done)) (sym way) (c.go_on.ensures.step plain known.0 stands known.1 rid)
