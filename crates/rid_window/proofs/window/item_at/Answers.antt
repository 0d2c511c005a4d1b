use Rattle.std.proofs.Common.{sym, ◌∙◌, ap}
use Rattle.std.specs.Option.{option_copied}
use Rattle.rid_window.proofs.window.item_at.Goals as goal
use Rattle.rid_window.proofs.Ring.{get_none}

pub returns-in-None : goal.returns-in-None
returns-in-None g c = sym (get_none c.args.places.now.items c.args.place (sym c.get.ensures ∙ ap option_copied c.in-None.is))
