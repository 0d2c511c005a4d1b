use Rattle.stream_backend.specs.Serving.{Hears}
use Rattle.stream_backend.proofs.lines.note_news.Given as goal

abbrev pub invariant-loop-line : goal.invariant-loop-line
invariant-loop-line g l = Hears l.fn.lines l.lines
