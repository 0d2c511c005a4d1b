use Rattle.std.proofs.Common.{◌∙◌, ap}
use Rattle.body_cutter.specs.declared.place.Place.TheVariants.{Value as InValue}
use Rattle.body_cutter.proofs.RunsRead.{if_ok, value_read}
use Rattle.body_cutter.proofs.reader.Reader.run_in_value.Goals as goal

pub returns : goal.returns
returns c = λ p r. if_ok c.pass_value.result _ _ (λ count x. value_read _ c.args.quote (p ∙ ap (InValue c.args.quote) c.if-after_cr.false) r _ count _ x) c.pass_value.ensures
