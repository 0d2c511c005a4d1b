use Rattle.std.proofs.Common.{◌∙◌, sym, subst}
use Rattle.std.specs.Prelude.{IfOk}
use Rattle.bosh_client.specs.declared.replies.Queued.{Queued}
use Rattle.bosh_client.specs.PlainClient.{PlainClient}
use Rattle.bosh_client.specs.StandsFor.{Does, StandsFor}
use Rattle.bosh_client.proofs.StepLemmas.{choose_no, choose_yes}
use Rattle.bosh_client.proofs.client.Client.put_on.Goals as goal

pub returns-clause-step : goal.returns-clause-step
unfolding StandsFor
returns-clause-step c = λ plain stands.
    let way = choose_no _ _ _ (sym (c.is_over.ensures plain stands) ∙ c.if-is_over.false) ∙ choose_yes _ _ _ (sym (c.has_stream.ensures plain stands) ∙ c.if-not-has_stream.false) in
    subst (λ (done : PlainClient × Queued). IfOk c.put_for.result (λ reply. Does c.put_for.new.self reply done)) (sym way) (c.put_for.ensures.step plain stands)
