use Rattle.std.proofs.Common.{sym}
use Rattle.session_table.proofs.PurseLemmas.{turned}
use Rattle.session_table.proofs.purse.Purse.wait_for.Goals as goal

pub returns-clause-waited : goal.returns-clause-waited
returns-clause-waited g c =
    turned c.args.number _ _ c.in-Some.session.now c.wait_for.new.self (sym c.in-Some.ensures.value) (c.get_mut.follows.holds c.wait_for.new.self) _
    c.wait_for.ensures.same c.wait_for.ensures.number c.wait_for.ensures.waited
