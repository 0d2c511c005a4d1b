use Rattle.session_core.specs.StandsFor.{StandsFor}
use Rattle.session_core.proofs.CopiedLemmas.{copied_holds}
use Rattle.session_core.proofs.session.Session.copied.Goals as goal

pub returns : goal.returns
unfolding StandsFor
returns c = λ plain stands.
    copied_holds stands c.in_ok-keys.ensures c.in_ok-keep.ensures c.in_ok-window.ensures c.in_ok-held.ensures c.in_ok-inward.ensures
    c.in_ok-outbox.ensures c.in_ok-tickets.ensures c.copied-streams.ensures
