use Rattle.std.proofs.Common.{◌∙◌, ap, refl}
use Rattle.xmpp_backend.specs.Told.{held_too}
use Rattle.xmpp_backend.proofs.DuesLemmas.{held_more}
use Rattle.stream_backend.proofs.ToldLemmas.{told_same}
use Rattle.stream_backend.proofs.lists.Lists.hold.Goals as goal

pub returns : goal.returns
returns c = told_same _ _ _ _ _ _ _ _ refl refl (held_more _ _ _ c.and-self-inside.ensures) ∙ ap (held_too c.args.wire) c.self.view_is
