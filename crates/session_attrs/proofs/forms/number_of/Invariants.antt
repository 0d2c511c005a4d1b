use Rattle.std.proofs.Common.{◌≡◌, ◌<◌, ◌^◌, drop}
use Rattle.session_attrs.specs.Forms.{number_of}
use Rattle.session_attrs.proofs.NumberLemmas.{number_on}
use Rattle.session_attrs.proofs.forms.number_of.Given as goal

-- what the text writes is what the digits that are left write after the number so far
abbrev pub invariant-loop-digit : goal.invariant-loop-digit
invariant-loop-digit l = record {
  low : l.value < 10 ^ l.digit-index;
  same : number_of l.text ≡ number_on l.value (drop l.digit-index l.text);
}
