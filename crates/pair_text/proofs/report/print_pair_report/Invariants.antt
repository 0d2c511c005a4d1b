use Rattle.std.proofs.Common.{◌≡◌, ◌++◌, drop}
use Rattle.pair_text.specs.Report.{pair_report_text}
use Rattle.pair_text.proofs.report.print_pair_report.Given as goal

-- what is to be written is what was written and the lines that are left
abbrev pub invariant-loop-line : goal.invariant-loop-line
invariant-loop-line l = pair_report_text l.lines ≡ l.text.items ++ pair_report_text (drop l.line-index l.lines)
