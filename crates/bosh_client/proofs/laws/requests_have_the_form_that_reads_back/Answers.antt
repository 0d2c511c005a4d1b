use Rattle.bosh_client.proofs.FormLemmas.{requests_formed}
use Rattle.bosh_client.proofs.laws.requests_have_the_form_that_reads_back.Goals as goal

pub returns : goal.returns
returns c = requests_formed
