use Rattle.stream_names.proofs.Numbers.{canonical_of}
use Rattle.stream_names.proofs.set.StreamSet.in_order.Goals as goal

pub returns : goal.returns
returns c = canonical_of c.self.inside.marks c.args.self.now c.self.view_is
