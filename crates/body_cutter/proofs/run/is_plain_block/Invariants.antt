use Rattle.std.proofs.Common.{◌≡◌, take}
use Rattle.std.specs.List.{list_all}
use Rattle.body_cutter.specs.Scanning.{is_plain_byte}
use Rattle.body_cutter.proofs.run.is_plain_block.Given as goal

abbrev pub invariant-loop-b : goal.invariant-loop-b
invariant-loop-b l = l.is_plain ≡ list_all (is_plain_byte l.first l.second l.third) (take l.b-index l.block)
