use Rattle.std.proofs.Common.{◌-◌, length}
use Rattle.body_cutter.specs.Scanning.{IsRun}
use Rattle.body_cutter.proofs.run.run_of.Given as goal

-- the bytes so far go on with the run
abbrev pub invariant-loop-count : goal.invariant-loop-count
invariant-loop-count l = IsRun l.run l.fn.wide l.bytes l.count l.left

abbrev pub decreases-loop-count : goal.decreases-loop-count
decreases-loop-count l = length l.initial.bytes - l.count
