use Rattle.std.proofs.Common.{sym, ◌∙◌, ap}
use Rattle.std.specs.Option.{option_copied}
use Rattle.reply_keep.proofs.Ring.{get_none}
use Rattle.reply_keep.proofs.keep.answer_at.Goals as goal

pub returns-in-None : goal.returns-in-None
returns-in-None c = sym (get_none c.args.places.now.items c.args.place (sym c.get.ensures ∙ ap option_copied c.in-None.is))
