use Rattle.std.proofs.Common.{sym}
use Rattle.session_table.proofs.PurseLemmas.{turned}
use Rattle.session_table.proofs.purse.Purse.state.Goals as goal

pub returns-clause-looked : goal.returns-clause-looked
returns-clause-looked g c =
    turned c.args.number _ _ c.in-Some.session.now c.state.new.self (sym c.in-Some.ensures.value) (c.get_mut.follows.holds c.state.new.self) _
    c.state.ensures.same c.state.ensures.number c.state.ensures.looked
