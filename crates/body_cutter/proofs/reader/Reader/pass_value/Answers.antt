use Rattle.body_cutter.proofs.RunsRead.{value_taken}
use Rattle.body_cutter.proofs.reader.Reader.pass_value.Goals as goal

pub returns : goal.returns
returns c = value_taken _ _ _ _ _ _ c.run_of-count.ensures c.in_ok-grow_value.ensures
