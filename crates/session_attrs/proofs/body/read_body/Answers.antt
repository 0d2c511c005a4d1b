use Rattle.session_attrs.proofs.BodyLemmas.{all_make}
use Rattle.session_attrs.proofs.body.read_body.Goals as goal

pub returns-clause-makes : goal.returns-clause-makes
returns-clause-makes c = all_make c.args.text.now c.request_in.result c.request_in.ensures
