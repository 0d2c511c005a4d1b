use Rattle.std.proofs.Common.{◌≡◌, ℕ, List, Result, Ok, Err, IfOk, sym, subst}
use Rattle.script_text.specs.declared.line.LineRead.{LineRead}
use Rattle.script_text.specs.Line.{line_of}
use Rattle.script_text.specs.Said.{IsWellRead}
use Rattle.script_text.proofs.SaidLemmas.{lines_well}
use Rattle.script_text.proofs.drive.read.Goals as goal

well : {E : Type 0} (line : List ℕ) (read : Result LineRead E) → IfOk read (λ r. r ≡ line_of line) → IfOk read (λ r. IsWellRead r)
well line (Ok r) is = subst IsWellRead (sym is) (lines_well line)
well line (Err e) is = tt

pub returns-in-Line-clause-well : goal.returns-in-Line-clause-well
returns-in-Line-clause-well c = well _ _ c.read_line.ensures
