use Rattle.std.specs.List.{AllWithin}
use Rattle.stream_backend.specs.Flow.{IsFlow}
use Rattle.stream_backend.specs.Lines.{Line}
use Rattle.stream_backend.specs.Serving.{KnowsStage}
use Rattle.stream_backend.proofs.lines.see.Given as goal

abbrev pub invariant-loop-line : goal.invariant-loop-line
invariant-loop-line g l = AllWithin (λ (line : Line). KnowsStage IsFlow line.stage) l.lines 0 l.line-index
