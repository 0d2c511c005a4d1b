use Rattle.std.proofs.Common.{rules}
use Rattle.parked_gate.proofs.Numbering.{splits_unnumbered}
use Rattle.parked_gate.proofs.gate.Gate.share.Goals as goal

pub split_seat-part-requires : goal.split_seat-part-requires
split_seat-part-requires g c = (search rules, search rules, splits_unnumbered _ _ _ _ (search rules))
