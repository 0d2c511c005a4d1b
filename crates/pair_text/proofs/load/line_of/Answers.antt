use Rattle.pair_text.specs.Load.{load_of}
use Rattle.pair_text.proofs.load.line_of.Goals as goal

pub returns : goal.returns
returns c = c.told_of.ensures (load_of c.args.number) c.in_ok-load.ensures
