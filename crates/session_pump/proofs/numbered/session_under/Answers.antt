use Rattle.std.proofs.Common.{ne_eqb, refl}
use Rattle.session_pump.proofs.NumberedLemmas.{item_in}
use Rattle.session_pump.proofs.PlaceLemmas.{any_further}
use Rattle.session_pump.proofs.numbered.session_under.Goals as goal

pub returns-then-session-number-clause-found : goal.returns-then-session-number-clause-found
returns-then-session-number-clause-found c = (item_in _ _ _ c.session-item.result refl c.loop-session-test.true c.session-item.is, c.if-session-number.true)

pub loop-session-preserved : goal.loop-session-preserved
loop-session-preserved c =
    any_further _ _ _ _ c.session-item.result _ refl c.loop-session-test.true c.session-item.is (ne_eqb _ _ c.if-session-number.false) c.loop-session.invariant
