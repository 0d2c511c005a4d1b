use Rattle.std.proofs.Common.{◌∙◌, Some, ap}
use Rattle.xmpp_backend.specs.Owing.{passed_for, told_of}
use Rattle.xmpp_backend.proofs.KindLemmas.{passed_told}
use Rattle.xmpp_backend.proofs.scripted.ScriptedBackend.pass.Goals as goal

pub returns-in-Ok-pass_for-clause-lists : goal.returns-in-Ok-pass_for-clause-lists
returns-in-Ok-pass_for-clause-lists c =
    ap (λ script. Some (told_of script.owing)) c.advance.ensures
    ∙ passed_told c.args.self.now.owing _ _ _ c.in-Ok.stanzas.items
    (c.in-Ok-pass_for.ensures.ok ∙ ap (λ script. passed_for c.args.wire c.args.item.now c.in-Ok.stanzas.items script.owing) (c.self.view_is ∙ c.call.ensures.called))
