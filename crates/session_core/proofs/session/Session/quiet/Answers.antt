use Rattle.std.proofs.Common.{◌∙◌, ℕ, max, true, false, ap}
use Rattle.session_core.specs.StandsFor.{StandsFor}
use Rattle.session_core.proofs.StandingLemmas.{quiet_is}
use Rattle.session_core.proofs.session.Session.quiet.Goals as goal

pub returns-then-is_clear : goal.returns-then-is_clear
unfolding StandsFor
returns-then-is_clear c = λ plain stands.
    c.later_of-told.ensures ∙ quiet_is c.is_clear.result true c.if-is_clear.true stands (c.is_clear.ensures _ stands.window.stands)

pub returns : goal.returns
unfolding StandsFor
returns c = λ plain stands.
    c.later_of.ensures ∙ ap (λ (told : ℕ). max told c.args.self.now.last_arrival) c.later_of-told.ensures
    ∙ quiet_is c.is_clear.result false c.if-is_clear.false stands (c.is_clear.ensures _ stands.window.stands)
