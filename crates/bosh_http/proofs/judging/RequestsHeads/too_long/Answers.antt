use Rattle.bosh_http.proofs.JudgingLemmas.{begun_too_long}
use Rattle.bosh_http.proofs.judging.RequestsHeads.too_long.Goals as goal

pub returns : goal.returns
returns c = begun_too_long
