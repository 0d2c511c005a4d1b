use Rattle.std.proofs.Common.{◌≡◌, drop}
use Rattle.std.specs.List.{find}
use Rattle.std.specs.Str.{bytes_eq}
use Rattle.bosh_types.specs.Condition.{name_of}
use Rattle.bosh_client.proofs.said.named.Given as goal

-- what is found is found among those that are left
abbrev pub invariant-loop-condition : goal.invariant-loop-condition
invariant-loop-condition l =
    find (λ condition. bytes_eq (name_of condition) l.text) l.conditions ≡ find (λ condition. bytes_eq (name_of condition) l.text) (drop l.condition-index l.conditions)
