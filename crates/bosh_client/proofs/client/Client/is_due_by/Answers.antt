use Rattle.std.proofs.Common.{◌≡◌, ◌∙◌, ◌&&◌, true, false, nat_lt, sym, ap, arith}
use Rattle.std.specs.Prelude.{◌==◌, slice_get}
use Rattle.std.specs.Option.{option_copied}
use Rattle.std.proofs.lemmas.Bool.Decides.{nat_tests}
use Rattle.bosh_client.specs.Machine.{has_rested, open_requests}
use Rattle.bosh_client.specs.PlainClient.{queued}
use Rattle.bosh_client.specs.StandsFor.{StandsFor}
use Rattle.bosh_client.proofs.DueLemmas.{due_empty, due_first}
use Rattle.bosh_client.proofs.FoundLemmas.{open_is}
use Rattle.bosh_client.proofs.client.Client.is_due_by.Goals as goal

pub returns-in-Some : goal.returns-in-Some
unfolding StandsFor
returns-in-Some c = λ plain stands.
    let first = ap (λ q. slice_get q 0) (sym stands.queue_is) ∙ sym c.first.ensures ∙ ap option_copied c.in-Some.is in
    ap (λ n. nat_lt n c.most_open.result) (c.open_count.ensures ∙ open_is stands.requests) ∙ ap (λ n. nat_lt (open_requests plain) n) c.most_open.ensures
    ∙ sym (due_first plain c.args.agreed.now c.args.now (queued plain) c.in-Some.item.now first)

pub returns-then-open_count-eq0 : goal.returns-then-open_count-eq0
unfolding StandsFor
returns-then-open_count-eq0 c = λ plain stands.
    let none = ap (λ q. slice_get q 0) (sym stands.queue_is) ∙ sym c.first.ensures ∙ ap option_copied c.in-None.is in
    let open_ = c.open_count-in-None.ensures ∙ open_is stands.requests in
    let test : (open_requests plain == 0) ≡ true = grind (arith, nat_tests, open_) in
    c.has_rested.ensures plain stands ∙ sym (due_empty plain c.args.agreed.now c.args.now (queued plain) none ∙ ap (λ b. b && has_rested plain c.args.agreed.now c.args.now) test)

pub returns-else-open_count-eq0 : goal.returns-else-open_count-eq0
unfolding StandsFor
returns-else-open_count-eq0 c = λ plain stands.
    let none = ap (λ q. slice_get q 0) (sym stands.queue_is) ∙ sym c.first.ensures ∙ ap option_copied c.in-None.is in
    let open_ = c.open_count-in-None.ensures ∙ open_is stands.requests in
    let own : (c.open_count-in-None.result == 0) ≡ false = grind (arith, nat_tests) in
    let test : (open_requests plain == 0) ≡ false = ap (λ n. n == 0) (sym open_) ∙ own in
    own ∙ sym (due_empty plain c.args.agreed.now c.args.now (queued plain) none ∙ ap (λ b. b && has_rested plain c.args.agreed.now c.args.now) test)
