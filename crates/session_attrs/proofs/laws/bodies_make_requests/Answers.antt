use Rattle.session_attrs.proofs.BodyLemmas.{makes_is, one_made}
use Rattle.session_attrs.proofs.laws.bodies_make_requests.Goals as goal

pub returns : goal.returns
returns c = record { makes = makes_is; one = one_made }
