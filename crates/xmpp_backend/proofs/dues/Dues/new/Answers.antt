use Rattle.std.proofs.Common.{[], ap, ◌∙◌}
use Rattle.xmpp_backend.specs.Dues.{held_by}
use Rattle.xmpp_backend.proofs.DuesLemmas.{dues_same}
use Rattle.xmpp_backend.proofs.dues.Dues.new.Goals as goal

pub returns : goal.returns
returns c = dues_same _ _ _ _ _ _ _ _ c.new.ensures (ap (held_by []) c.new-3.ensures) c.new-4.ensures.items c.new-5.ensures.items
