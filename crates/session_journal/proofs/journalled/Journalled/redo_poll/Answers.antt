use Rattle.std.proofs.Common.{sym, ◌∙◌}
use Rattle.session_journal.proofs.RedoneLemmas.{foreign_poll, redone_poll}
use Rattle.session_journal.proofs.journalled.Journalled.redo_poll.Goals as goal

pub returns-then-not-uses_up : goal.returns-then-not-uses_up
returns-then-not-uses_up c =
    foreign_poll c.args.self.now c.args.caller c.args.ticket c.poll-collected.new.self c.poll-collected.result c.poll-collected.ensures (sym c.uses_up.ensures ∙ c.if-not-uses_up.true)

pub returns : goal.returns
returns c = redone_poll c.args.self.now c.args.caller c.args.ticket c.poll-collected.new.self c.poll-collected.result c.poll-collected.ensures (sym c.uses_up.ensures ∙ c.if-not-uses_up.false)
