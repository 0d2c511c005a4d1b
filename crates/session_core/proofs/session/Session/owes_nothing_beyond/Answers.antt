use Rattle.std.proofs.Common.{◌∙◌, ap, false, sym}
use Rattle.bosh_types.specs.declared.terms.Terms.{Terms}
use Rattle.session_core.specs.StandsFor.{StandsFor}
use Rattle.session_core.proofs.StandingLemmas.{nothing_beyond_is, polls_nothing}
use Rattle.session_core.proofs.session.Session.owes_nothing_beyond.Goals as goal

pub returns-then-terms : goal.returns-then-terms
unfolding StandsFor
returns-then-terms c = λ plain stands. c.if-terms.true ∙ polls_nothing stands (sym (ap (λ (t : Terms). t.polled) c.terms.ensures) ∙ c.if-terms.true)

pub returns-else-terms : goal.returns-else-terms
unfolding StandsFor
returns-else-terms c = λ plain stands.
    nothing_beyond_is false c.is_clear.result stands (sym c.if-terms.false ∙ ap (λ (t : Terms). t.polled) c.terms.ensures) (c.is_clear.ensures _ stands.window.stands)
