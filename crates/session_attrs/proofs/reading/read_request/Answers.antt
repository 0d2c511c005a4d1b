use Rattle.session_attrs.specs.Values.{values_of}
use Rattle.session_attrs.proofs.MeaningLemmas.{answered_means, answered_refused}
use Rattle.session_attrs.proofs.reading.read_request.Goals as goal

pub returns-clause-means : goal.returns-clause-means
returns-clause-means c = answered_means (values_of c.args.text.now c.args.cut.now.attrs) c.args.cut.now.children c.read.result c.read.ensures

pub returns-clause-refused : goal.returns-clause-refused
returns-clause-refused c = answered_refused (values_of c.args.text.now c.args.cut.now.attrs) c.args.cut.now.children c.read.result c.read.ensures
