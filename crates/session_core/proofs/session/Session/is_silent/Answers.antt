use Rattle.std.proofs.Common.{◌∙◌, ℕ, ap}
use Rattle.session_core.specs.StandsFor.{StandsFor}
use Rattle.session_core.specs.Time.{is_silent}
use Rattle.session_core.proofs.StandingLemmas.{moment_is}
use Rattle.session_core.proofs.session.Session.is_silent.Goals as goal

pub returns : goal.returns
unfolding StandsFor
returns c = λ plain stands. c.is_silent_at.ensures plain stands ∙ ap (λ (now : ℕ). is_silent (record plain { now = now })) (moment_is stands)
