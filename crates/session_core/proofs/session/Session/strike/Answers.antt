use Rattle.session_core.specs.StandsFor.{StandsFor}
use Rattle.session_core.proofs.StruckLemmas.{struck_holds}
use Rattle.session_core.proofs.session.Session.strike.Goals as goal

pub returns : goal.returns
unfolding StandsFor
returns c = λ plain stands due text.
    struck_holds c.args.rid c.args.error.now c.strike-struck.new.self c.strike.new.self stands due text c.strike-struck.ensures.after c.in_ok-strike.ensures
