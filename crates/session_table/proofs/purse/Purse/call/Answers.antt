use Rattle.std.proofs.Common.{sym}
use Rattle.session_table.proofs.PurseLemmas.{turned}
use Rattle.session_table.proofs.purse.Purse.call.Goals as goal

pub returns-clause-called : goal.returns-clause-called
returns-clause-called g c =
    turned c.args.number _ _ c.in-Some.session.now c.call.new.self (sym c.in-Some.ensures.value) (c.get_mut.follows.holds c.call.new.self) _
    c.call.ensures.same c.call.ensures.number c.call.ensures.called
