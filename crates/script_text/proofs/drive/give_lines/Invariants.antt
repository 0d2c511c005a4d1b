use Rattle.std.proofs.Common.{◌≡◌, drop}
use Rattle.script_text.proofs.GivenLemmas.{HasReported}
use Rattle.script_text.proofs.drive.give_lines.Given as goal

-- the lines that are left follow those that were given
abbrev pub invariant-loop-line : goal.invariant-loop-line
invariant-loop-line g l = record {
  given : HasReported (g.K.Sink.given l.fn.sink) (g.K.Sink.given l.sink) l.fn.lines (drop l.line-index l.fn.lines);
  faults : g.K.Sink.faults l.sink ≡ g.K.Sink.faults l.fn.sink;
}
