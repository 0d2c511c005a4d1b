use Rattle.std.proofs.Common.{◌∙◌, sym, ap}
use Rattle.std.specs.Prelude.{◌==◌}
use Rattle.bosh_client.specs.Machine.{is_due_by}
use Rattle.bosh_client.specs.StandsFor.{StandsFor}
use Rattle.bosh_client.proofs.DueLemmas.{unspent}
use Rattle.bosh_client.proofs.client.Client.is_due.Goals as goal

pub returns-in-None : goal.returns-in-None
unfolding StandsFor
returns-in-None c = λ plain stands.
    let none = sym stands.agreed_is ∙ c.in-None.is in
    c.is_empty.ensures ∙ ap (λ n. n == 0) (unspent stands.requests none) ∙ sym (ap (λ a. is_due_by plain a c.args.now) none)
