use Rattle.std.proofs.Common.{◌∙◌}
use Rattle.session_core.proofs.OpenedLemmas.{creation_modest, open_requests, payloads_are}
use Rattle.session_core.proofs.session.Session.open.Goals as goal

pub first_session-requires-clause-modest : goal.first_session-requires-clause-modest
first_session-requires-clause-modest c = creation_modest _ c.requires

pub first_session-requires-clause-some : goal.first_session-requires-clause-some
first_session-requires-clause-some c = (open_requests _ c.requires).0

pub first_session-requires-clause-few : goal.first_session-requires-clause-few
first_session-requires-clause-few c = (open_requests _ c.requires).1

pub returns : goal.returns
returns c =
    let bytes = c.in_ok-again.ensures ∙ c.in_ok-text.ensures in
    let payloads = c.len.ensures ∙ payloads_are c.args.opening.now in
    record {
      session = c.in_ok-session.ensures (λ i. record { bytes = bytes i; given = c.args.opening.now.at; payloads = payloads i });
      text = c.in_ok-text.ensures;
    }
