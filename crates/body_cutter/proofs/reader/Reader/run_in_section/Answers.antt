use Rattle.std.proofs.Common.{◌∙◌, ap}
use Rattle.body_cutter.specs.declared.place.Place.TheVariants.{Section}
use Rattle.body_cutter.proofs.RunsRead.{section_read}
use Rattle.body_cutter.proofs.reader.Reader.run_in_section.Goals as goal

pub returns : goal.returns
returns c = λ p r. section_read _ _ _ _ c.pass.ensures.run c.pass.ensures.same (p ∙ ap Section c.if-brackets-ne0.false) r
