use Rattle.std.proofs.Common.{sym}
use Rattle.session_table.proofs.PurseLemmas.{turned}
use Rattle.session_table.proofs.purse.Purse.look.Goals as goal

pub returns-clause-looked : goal.returns-clause-looked
returns-clause-looked g c =
    turned c.args.number _ _ c.in-Some.session.now c.look.new.self (sym c.in-Some.ensures.value) (c.get_mut.follows.holds c.look.new.self) _
    c.look.ensures.same c.look.ensures.number c.look.ensures.looked
