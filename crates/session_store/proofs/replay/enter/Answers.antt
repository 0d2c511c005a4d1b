use Rattle.std.proofs.Common.{◌∙◌, ◌∷◌, [], ◌++◌, List, ap, subst, arith}
use Rattle.session_journal.specs.declared.entry.Entry.{Entry}
use Rattle.session_store.specs.Replay.{OpensAs}
use Rattle.session_store.proofs.ReplayLemmas.{opens_next}
use Rattle.session_store.proofs.replay.enter.Goals as goal

pub returns-in_ok-push-in-Some-2 : goal.returns-in_ok-push-in-Some-2
returns-in_ok-push-in-Some-2 c =
    let opens = subst (OpensAs c.args.entry) c.in-Some-2.is c.in_ok-journalled.ensures in
    opens_next c.args.sessions.now.items c.push.new.self.items c.args.session c.in-Some.place (omega (arith, c.in-Some.ensures.0, c.in-Some.ensures.1)) c.args.entry
    (omega (arith, c.if-place-len.false, c.if-place-len-2.false, c.len.ensures, c.len-2.ensures)) opens.1
    (c.in_ok-push-in-Some-2.ensures.items ∙ ap (λ (l : List Entry). c.args.sessions.now.items ++ l ∷ []) opens.0)
