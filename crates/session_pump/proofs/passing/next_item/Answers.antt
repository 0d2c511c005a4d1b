use Rattle.std.proofs.Common.{Ok, subst}
use Rattle.session_journal.specs.declared.call.Call.TheVariants as calls
use Rattle.session_table.specs.Purses.{Turned}
use Rattle.session_pump.specs.Calling.{Called}
use Rattle.session_pump.proofs.passing.next_item.Goals as goal

pub returns-in-Ok-clause-took : goal.returns-in-Ok-clause-took
returns-in-Ok-clause-took g c =
    subst (λ r. Turned c.args.number c.args.purse.now.sessions c.call.new.self.sessions (Called calls.TakeInward (Ok r))) c.item_in.ensures c.in-Ok.ensures.called
