use Rattle.std.proofs.Common.{◌≡◌, ◌<◌, ◌^◌, drop}
use Rattle.bosh_types.specs.Decimal.{positive_of}
use Rattle.bosh_commands.specs.Number.{within_64}
use Rattle.bosh_commands.proofs.NumberLemmas.{value_after}
use Rattle.bosh_commands.proofs.number.positive_number.Given as goal

-- what the text writes is what the digits that are left write after the number so far
abbrev pub invariant-loop-digit : goal.invariant-loop-digit
invariant-loop-digit l = record {
  fits : l.value < 2 ^ 64;
  same : within_64 (positive_of l.text) ≡ value_after l.value (drop l.digit-index l.text);
}
