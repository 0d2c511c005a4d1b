use Rattle.std.proofs.Common.{ℕ, subst}
use Rattle.std.specs.Prelude.{OnOk}
use Rattle.bosh_types.specs.declared.ending.Ending.TheVariants.{JournalFull}
use Rattle.session_core.specs.Endings.{ended}
use Rattle.session_core.specs.StandsFor.{StandsFor, Holds}
use Rattle.session_core.proofs.CountedLemmas.{counted_is}
use Rattle.session_core.proofs.session.Session.fill.Goals as goal

pub returns : goal.returns
unfolding StandsFor
returns c = λ plain stands live.
    subst (λ (counted : ℕ). OnOk c.end.result (Holds c.end.new.self (ended (JournalFull counted c.args.cost) plain))) (counted_is stands)
    (c.end.ensures plain stands live tt)
