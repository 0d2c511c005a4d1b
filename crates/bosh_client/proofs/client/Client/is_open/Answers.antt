use Rattle.std.proofs.Common.{◌∙◌, sym, ap}
use Rattle.std.specs.Option.{option_copied}
use Rattle.bosh_client.specs.StandsFor.{StandsFor}
use Rattle.bosh_client.proofs.FoundLemmas.{open_in, open_in_is}
use Rattle.bosh_client.proofs.client.Client.is_open.Goals as goal

pub returns-in-Some : goal.returns-in-Some
unfolding StandsFor
returns-in-Some c = λ plain stands made.
    let slot = sym c.at.ensures ∙ ap option_copied c.in-Some.is in
    c.is_open.ensures ∙ sym (ap open_in slot) ∙ open_in_is c.args.self.now.exchanges c.args.self.now.inbox plain c.args.rid stands.requests made

pub returns-in-None : goal.returns-in-None
unfolding StandsFor
returns-in-None c = λ plain stands made.
    let slot = sym c.at.ensures ∙ ap option_copied c.in-None.is in
    sym (ap open_in slot) ∙ open_in_is c.args.self.now.exchanges c.args.self.now.inbox plain c.args.rid stands.requests made
