use Rattle.std.proofs.Common.{◌∙◌, sym, ap, None}
use Rattle.std.specs.Option.{option_copied}
use Rattle.session_core.specs.StandsFor.{StandsFor}
use Rattle.session_core.proofs.StandingLemmas.{next_live}
use Rattle.session_core.proofs.session.Session.next_copy.Goals as goal

pub returns-in-None : goal.returns-in-None
unfolding StandsFor
returns-in-None c = λ plain stands.
    next_live None stands (sym c.is_some.ensures ∙ c.if-is_some.false) (ap option_copied (sym c.in-None.is) ∙ c.first.ensures _ stands.window.stands)
