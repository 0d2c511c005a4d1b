use Rattle.std.proofs.Common.{◌∙◌, ap, false, ℕ}
use Rattle.std.specs.Prelude.{slice_index_or}
use Rattle.stream_names.proofs.Numbers.{mark_read}
use Rattle.stream_names.proofs.set.StreamSet.contains.Goals as goal

pub returns : goal.returns
returns c =
    ap (λ (n : ℕ). slice_index_or c.self.inside.marks n false) (c.from.ensures ∙ c.number.ensures.value)
    ∙ mark_read c.self.inside.marks c.args.self.now c.args.stream c.self.view_is c.number.ensures.in_range
