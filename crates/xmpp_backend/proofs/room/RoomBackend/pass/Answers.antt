use Rattle.std.proofs.Common.{◌≡◌, ◌∙◌, Some, ap}
use Rattle.xmpp_backend.specs.Owing.{passed_for, told_of}
use Rattle.xmpp_backend.proofs.KindLemmas.{passed_told}
use Rattle.xmpp_backend.proofs.room.RoomBackend.pass.Goals as goal
use Rattle.xmpp_backend.proofs.room.RoomBackend.pass.Goals.{in-Err, in-Ok-pass_for}

pub returns-clause-lists : goal.returns-clause-lists
returns-clause-lists c =
    elim c.match-pass_for.branch [
      | in-Ok-pass_for w ↦ rw w.result-is
          (passed_told c.args.self.now _ _ _ c.in-Ok.stanzas.items (w.in-Ok-pass_for.ensures.ok ∙ ap (passed_for c.args.wire c.args.item.now c.in-Ok.stanzas.items) c.self.view_is))
      | in-Err w ↦ rw w.result-is (ap (λ owing. Some (told_of owing)) (w.in-Err.ensures.err ∙ c.self.view_is))
    ]
