use Rattle.std.proofs.Common.{refl, sym}
use Rattle.session_pump.proofs.numbered.sid_of.Goals as goal

pub returns-in-Some-clause-held : goal.returns-in-Some-clause-held
returns-in-Some-clause-held c = record { handle = c.in-Some.session.now; is = sym c.in-Some.ensures.value; named = refl }
