use Rattle.std.proofs.Common.{◌∙◌, sym}
use Rattle.body_cutter.proofs.RunsRead.{zeros_read}
use Rattle.body_cutter.proofs.reader.Reader.run_in_reference.Goals as goal

pub returns : goal.returns
returns c = λ r. zeros_read _ c.args.reference _ _ _ c.pass.ensures.run c.pass.ensures.same r (sym c.is_zero.ensures ∙ c.if-not-is_zero.false)
