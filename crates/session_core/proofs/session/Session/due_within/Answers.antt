use Rattle.std.proofs.Common.{◌∙◌, ℕ, ap, sym, subst}
use Rattle.pause_rules.specs.Due.{IsFirstMoment, is_silent_due}
use Rattle.session_core.specs.Time.{quiet_of}
use Rattle.session_core.specs.StandsFor.{Alike, StandsFor}
use Rattle.session_core.proofs.DueLemmas.{due_silent, due_waits}
use Rattle.session_core.proofs.session.Session.due_within.Goals as goal

pub returns-in-Some : goal.returns-in-Some
unfolding StandsFor
returns-in-Some c = λ plain stands on nothing none.
    due_waits stands on nothing none c.in-Some.field-0 (sym c.oldest.ensures ∙ c.in-Some.is) c.first_wait_due.result c.first_wait_due.ensures.first

pub returns-in-None : goal.returns-in-None
unfolding StandsFor
returns-in-None c = λ plain stands on nothing none.
    due_silent stands on nothing none (sym c.oldest.ensures ∙ c.in-None.is) c.silent_due_at.result
    (subst (λ (period : ℕ). IsFirstMoment (is_silent_due period (quiet_of plain)) c.silent_due_at.result) (ap (λ (a : Alike). a.pace.period) stands.alike)
    (subst (λ (quiet : ℕ). IsFirstMoment (is_silent_due c.args.self.now.deadlines.period quiet) c.silent_due_at.result) (c.quiet.ensures plain stands) c.silent_due_at.ensures.first))
