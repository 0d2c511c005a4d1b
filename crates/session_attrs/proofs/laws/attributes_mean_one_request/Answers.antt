use Rattle.session_attrs.proofs.MeaningLemmas.{one, some}
use Rattle.session_attrs.proofs.laws.attributes_mean_one_request.Goals as goal

pub returns : goal.returns
returns c = record { one = one; some = some }
