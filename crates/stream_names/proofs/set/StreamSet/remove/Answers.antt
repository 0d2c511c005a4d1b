use Rattle.std.proofs.Common.{◌∙◌, ap, false, List, ℕ, arith}
use Rattle.std.specs.Prelude.{slice_set}
use Rattle.stream_names.specs.Streams.{marked, without}
use Rattle.stream_names.proofs.Numbers.{mark_cleared}
use Rattle.stream_names.proofs.set.StreamSet.remove.Goals as goal

pub returns : goal.returns
returns c =
    ap (λ (n : ℕ). marked (slice_set c.self.inside.marks n false)) (c.from.ensures ∙ c.number.ensures.value)
    ∙ mark_cleared c.self.inside.marks c.args.stream (omega (arith, c.self.told, c.number.ensures.in_range))
    ∙ ap (λ (streams : List ℕ). without streams c.args.stream) c.self.view_is
