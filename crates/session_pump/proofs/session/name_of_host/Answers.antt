use Rattle.session_pump.proofs.TurnLemmas.{home_so}
use Rattle.session_pump.proofs.session.name_of_host.Goals as goal

pub returns-in-Ok-clause-named : goal.returns-in-Ok-clause-named
returns-in-Ok-clause-named g c = home_so _ _ _ _ _ c.home_in.ensures c.in-Ok.ensures.looked
