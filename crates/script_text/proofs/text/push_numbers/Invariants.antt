use Rattle.std.proofs.Common.{◌≡◌, ◌++◌, drop}
use Rattle.script_text.specs.Report.{numbers_text}
use Rattle.script_text.proofs.text.push_numbers.Given as goal

-- what is to be written is what was written and the numbers that are left
abbrev pub invariant-loop-number : goal.invariant-loop-number
invariant-loop-number l = l.fn.text.items ++ numbers_text l.numbers ≡ l.text.items ++ numbers_text (drop l.number-index l.numbers)
