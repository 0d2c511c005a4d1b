use Rattle.std.proofs.Common.{◌∙◌, ap, true, List, ℕ, arith}
use Rattle.std.specs.Prelude.{slice_set}
use Rattle.stream_names.specs.Streams.{marked, with_stream}
use Rattle.stream_names.proofs.Numbers.{mark_set}
use Rattle.stream_names.proofs.set.StreamSet.insert.Goals as goal

pub returns : goal.returns
returns c =
    ap (λ (n : ℕ). marked (slice_set c.self.inside.marks n true)) (c.from.ensures ∙ c.number.ensures.value)
    ∙ mark_set c.self.inside.marks c.args.stream (omega (arith, c.self.told, c.number.ensures.in_range))
    ∙ ap (λ (streams : List ℕ). with_stream streams c.args.stream) c.self.view_is
