use Rattle.std.proofs.Common.{◌∙◌, Some, sym, ap}
use Rattle.std.specs.Option.{option_copied}
use Rattle.bosh_client.specs.StandsFor.{StandsFor}
use Rattle.bosh_client.proofs.FoundLemmas.{copy_in, copy_is}
use Rattle.bosh_client.proofs.client.Client.copy.Goals as goal

pub returns-in_err-body : goal.returns-in_err-body
unfolding StandsFor
returns-in_err-body c = λ plain stands.
    let slot = sym c.at.ensures ∙ ap option_copied c.in_err-body.was in
    ap option_copied c.from_residual.ensures ∙ sym (ap copy_in slot) ∙ copy_is c.args.self.now.exchanges c.args.self.now.inbox plain c.args.rid stands.requests

pub returns-in-Open : goal.returns-in-Open
unfolding StandsFor
returns-in-Open c = λ plain stands.
    let slot = sym c.at.ensures ∙ ap option_copied c.in_ok-body.was ∙ ap Some c.in-Open.is in
    ap Some c.as_slice.ensures ∙ sym (ap copy_in slot) ∙ copy_is c.args.self.now.exchanges c.args.self.now.inbox plain c.args.rid stands.requests

pub returns-in-Answered : goal.returns-in-Answered
unfolding StandsFor
returns-in-Answered c = λ plain stands.
    let slot = sym c.at.ensures ∙ ap option_copied c.in_ok-body.was ∙ ap Some c.in-Answered.is in
    sym (ap copy_in slot) ∙ copy_is c.args.self.now.exchanges c.args.self.now.inbox plain c.args.rid stands.requests
