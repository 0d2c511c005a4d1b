use Rattle.stream_names.proofs.Numbers.{none_marked}
use Rattle.stream_names.proofs.set.StreamSet.none.Goals as goal

pub returns : goal.returns
returns c = none_marked
