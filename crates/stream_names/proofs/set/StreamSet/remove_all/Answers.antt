use Rattle.std.proofs.Common.{◌∙◌, ◌≡◌, ◌+◌, ◌&&◌, not, ap, sym, List, ℕ, Bool, arith, false}
use Rattle.std.specs.Prelude.{slice_index_or}
use Rattle.stream_names.proofs.Numbers.{canonical_of, cleared_all, cleared_next, cleared_none, mark_read}
use Rattle.stream_names.proofs.set.StreamSet.remove_all.Goals as goal

pub loop-place-init : goal.loop-place-init
loop-place-init c = cleared_none c.self.inside.marks c.args.self.now c.args.others.now c.self.told c.self.view_is

pub loop-place-preserved : goal.loop-place-preserved
loop-place-preserved c =
    cleared_next c.args.self.now c.args.others.now c.loop-place.self-inside.marks c.loop-place.place c.left.result c.loop-place-test.true
    (c.left.ensures ∙ ap (λ (b : Bool). slice_index_or c.loop-place.self-inside.marks c.loop-place.place false && not b)
    (mark_read c.others.inside.marks c.args.others.now c.loop-place.place c.others.view_is c.loop-place-test.true)) c.loop-place.invariant

pub returns : goal.returns
returns c =
    cleared_all c.args.self.now c.args.others.now c.loop-place.self-inside.marks c.loop-place.place (omega arith)
    (canonical_of c.self.inside.marks c.args.self.now c.self.view_is) c.loop-place.invariant
