use Rattle.std.proofs.Common.{◌∙◌, ap, refl}
use Rattle.xmpp_backend.specs.Told.{closed_too}
use Rattle.xmpp_backend.proofs.DuesLemmas.{held_less}
use Rattle.stream_backend.proofs.ToldLemmas.{one_more, told_same}
use Rattle.stream_backend.proofs.lists.Lists.close.Goals as goal

pub returns : goal.returns
returns c = told_same _ _ _ _ _ _ _ _ refl (one_more _ _ _ c.and-self-inside.ensures) (held_less _ _ _ c.and-self-inside-2.ensures) ∙ ap (closed_too c.args.wire) c.self.view_is
