use Rattle.std.proofs.Common.{List, subst}
use Rattle.std.specs.Prelude.{All}
use Rattle.stream_backend.specs.Flow.{IsFlow}
use Rattle.stream_backend.specs.Lines.{Line}
use Rattle.stream_backend.specs.Serving.{KnowsStage}
use Rattle.stream_backend.proofs.PollLemmas.{all_holds}
use Rattle.stream_backend.proofs.backend.StreamBackend.laws.Goals as goal

pub returns : goal.returns
returns g c =
    rw (← c.self.view_is)
    (all_holds c.self.inside.lists c.self.inside.lines.items c.self.invariant (subst (All (λ (line : Line). KnowsStage IsFlow line.stage)) c.deref.ensures.value c.see.ensures))
