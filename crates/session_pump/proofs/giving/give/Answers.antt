use Rattle.std.proofs.Common.{Ok, subst, sym}
use Rattle.session_table.specs.Purses.{Turned}
use Rattle.session_pump.specs.Taking.{Gives}
use Rattle.session_pump.specs.declared.giving.Giving.TheVariants as givings
use Rattle.session_pump.proofs.GivingLemmas.{close_tried}
use Rattle.session_pump.proofs.giving.give.Goals as goal

pub returns-in-Stanza-clause-gives : goal.returns-in-Stanza-clause-gives
returns-in-Stanza-clause-gives g c =
    subst (λ what. Turned c.args.number c.args.purse.now.sessions c.give_stanza.new.purse.sessions (Gives (g.C.Clock.moment c.args.clock.now) c.args.owing.now.stream what c.give_stanza.result))
    (sym c.in-Stanza.is) c.give_stanza.ensures.gives

pub returns-in-Ok-clause-gives : goal.returns-in-Ok-clause-gives
returns-in-Ok-clause-gives g c =
    subst (λ what. Turned c.args.number c.args.purse.now.sessions c.close_stream.new.purse.sessions (Gives (g.C.Clock.moment c.args.clock.now) c.args.owing.now.stream what (Ok givings.Done)))
    (sym c.in-Closed.is) c.in-Ok.ensures.closes

pub returns-in-Err-clause-gives : goal.returns-in-Err-clause-gives
returns-in-Err-clause-gives g c = close_tried (g.C.Clock.moment c.args.clock.now) _ c.args.owing.now.stream c.in-Closed.closing _ _ _ c.in-Err.ensures.closes
