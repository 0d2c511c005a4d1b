use Rattle.stream_backend.specs.Flow.{GoesOn}
use Rattle.stream_backend.proofs.stage.let_go.Given as goal

abbrev pub invariant-loop : goal.invariant-loop
invariant-loop g l = GoesOn l.fn.flow l.flow
