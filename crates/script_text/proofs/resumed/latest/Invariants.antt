use Rattle.std.proofs.Common.{◌≡◌, drop, max}
use Rattle.script_text.specs.Resumed.{latest}
use Rattle.script_text.proofs.resumed.latest.Given as goal

-- the latest of those so far and of those that are left is the latest of all
abbrev pub invariant-loop-entry : goal.invariant-loop-entry
invariant-loop-entry l = max l.moment (latest (drop l.entry-index l.entries)) ≡ latest l.entries
