use Rattle.std.proofs.Common.{◌∙◌, ap, refl}
use Rattle.xmpp_backend.specs.Told.{opened_too}
use Rattle.xmpp_backend.proofs.DuesLemmas.{held_less}
use Rattle.stream_backend.proofs.ToldLemmas.{told_same}
use Rattle.stream_backend.proofs.lists.Lists.open.Goals as goal

pub returns : goal.returns
returns c = told_same _ _ _ _ _ _ _ _ c.and-self-inside.ensures refl (held_less _ _ _ c.and-self-inside-2.ensures) ∙ ap (opened_too c.args.wire c.args.to.now) c.self.view_is
