use Rattle.session_table.proofs.ReplyLemmas.{open_replies, removed_replies}
use Rattle.session_table.proofs.object.DirectoryObject.step.Goals as goal

pub returns-in-Open : goal.returns-in-Open
returns-in-Open c = open_replies c.args.self.now c.open.new.self c.args.caller c.args.call c.in-Open.opening c.open.result c.in-Open.is c.open.ensures.step c.open.ensures.err

pub returns-then-removed : goal.returns-then-removed
returns-then-removed c =
    removed_replies c.args.self.now c.remove.new.self c.args.caller c.args.call c.in-Remove.sid c.as_slice-in-Remove.result.now c.in_ok-removed-in-Remove.removed c.in-Remove.is
    c.as_slice-in-Remove.ensures c.in_ok-removed-in-Remove.ensures.removed c.if-removed.true
