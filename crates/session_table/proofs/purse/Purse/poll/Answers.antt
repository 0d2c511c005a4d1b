use Rattle.std.proofs.Common.{sym}
use Rattle.session_table.proofs.PurseLemmas.{turned}
use Rattle.session_table.proofs.purse.Purse.poll.Goals as goal

pub returns-clause-polled : goal.returns-clause-polled
returns-clause-polled g c =
    turned c.args.number _ _ c.in-Some.session.now c.poll.new.self (sym c.in-Some.ensures.value) (c.get_mut.follows.holds c.poll.new.self) _
    c.poll.ensures.same c.poll.ensures.number c.poll.ensures.polled
