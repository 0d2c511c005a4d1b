use Rattle.std.proofs.Common.{◌≡◌, ◌-◌, reverse}
use Rattle.key_sequence.specs.Chain.{key_of, keys_down}
use Rattle.key_sequence.proofs.maker.KeyMaker.new.Given as goal

-- the keys below this number are made, and the key of this number comes next
abbrev pub invariant-loop-number : goal.invariant-loop-number
invariant-loop-number l = (l.newkey ≡ key_of l.seed l._number) × (reverse l.keys.items ≡ keys_down l.seed (l._number - 1))
