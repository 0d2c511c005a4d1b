use Rattle.std.proofs.Common.{◌∙◌, ap, sym}
use Rattle.body_cutter.specs.declared.place.Place.TheVariants.{Content}
use Rattle.body_cutter.specs.Scanning.{is_child}
use Rattle.body_cutter.proofs.RunsRead.{brackets_read, data_read}
use Rattle.body_cutter.proofs.reader.Reader.run_in_content.Goals as goal

pub returns-then-brackets-eq0 : goal.returns-then-brackets-eq0
returns-then-brackets-eq0 c = λ p r.
    data_read _ _ _ _ c.pass.ensures.run c.pass.ensures.same (p ∙ ap Content c.if-brackets-eq0.true) r (ap is_child (sym c.around.ensures) ∙ sym c.is_child.ensures ∙ c.if-not-is_child.false)

pub returns : goal.returns
returns c = λ p r.
    brackets_read _ _ _ _ c.pass-2.ensures.run c.pass-2.ensures.same (p ∙ ap Content c.if-brackets-ne2.false) r (ap is_child (sym c.around.ensures) ∙ sym c.is_child.ensures ∙ c.if-not-is_child.false)
