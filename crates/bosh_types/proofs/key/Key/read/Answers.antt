use Rattle.std.proofs.Common.{refl}
use Rattle.bosh_types.proofs.key.Key.read.Goals as goal

pub invariant_of-result : goal.invariant_of-result
invariant_of-result c = rw c.in-Ok.ensures.1.same (c.if-not-all_key_digits.ensures.0 refl)
