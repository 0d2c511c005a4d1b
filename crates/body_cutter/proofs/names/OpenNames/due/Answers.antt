use Rattle.std.proofs.Common.{◌∙◌, sym, ap, arith}
use Rattle.std.specs.Prelude.{slice_get}
use Rattle.body_cutter.specs.Names.{due, with_count}
use Rattle.body_cutter.proofs.NameLemmas.{due_last}
use Rattle.body_cutter.proofs.names.OpenNames.due.Goals as goal

pub returns : goal.returns
unfolding due
returns c =
    c.byte_at.ensures
    ∙ ap (λ name. with_count c.args.count (slice_get name c.args.count)) c.as_slice.ensures.value
    ∙ sym (due_last (λ name. name.items) c.self.inside.names.items _ c.index-name.result.now c.args.count (omega arith) c.index-name.ensures)
    ∙ ap (λ names. due names c.args.count) c.self.view_is
