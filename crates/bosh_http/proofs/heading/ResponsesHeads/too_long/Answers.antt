use Rattle.bosh_http.proofs.HeadingLemmas.{long_bad}
use Rattle.bosh_http.proofs.heading.ResponsesHeads.too_long.Goals as goal

pub returns : goal.returns
returns c = long_bad
