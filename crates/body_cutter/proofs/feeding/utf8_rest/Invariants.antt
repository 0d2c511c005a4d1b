use Rattle.std.proofs.Common.{◌≡◌, drop}
use Rattle.body_cutter.specs.Utf8.{utf8_rest}
use Rattle.body_cutter.proofs.feeding.utf8_rest.Given as goal

-- what is left after all is what is left of the rest
abbrev pub invariant-loop-b : goal.invariant-loop-b
invariant-loop-b l = utf8_rest l.fn.wide l.bytes ≡ utf8_rest l.rest (drop l.b-index l.bytes)
