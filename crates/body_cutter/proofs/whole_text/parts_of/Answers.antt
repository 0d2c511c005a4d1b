use Rattle.std.proofs.Common.{arith}
use Rattle.body_cutter.proofs.FedLemmas.{text_long}
use Rattle.body_cutter.proofs.whole_text.parts_of.Goals as goal

pub returns-then-text-longest_of : goal.returns-then-text-longest_of
returns-then-text-longest_of c = text_long c.args.kind _ _ _ c.args.text.now (omega (arith, c.longest_of.ensures, c.if-text-longest_of.true))
