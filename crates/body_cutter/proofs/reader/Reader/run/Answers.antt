use Rattle.body_cutter.proofs.RunsRead.{attr_name_read, if_ok, tag_name_read}
use Rattle.body_cutter.proofs.reader.Reader.run.Goals as goal

pub returns-in-TagName : goal.returns-in-TagName
returns-in-TagName c = if_ok c.pass_name.result _ _ (λ count x. tag_name_read _ _ count _ x c.in-TagName.is c.in_default.is) c.pass_name.ensures

pub returns-in-AttrName : goal.returns-in-AttrName
returns-in-AttrName c = if_ok c.pass_name-in-AttrName.result _ _ (λ count x. attr_name_read _ _ count _ x c.in-AttrName.is c.in_default.is) c.pass_name-in-AttrName.ensures
