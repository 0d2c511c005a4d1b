use Rattle.std.proofs.Common.{◌≡◌, ◌<◌, List, length, get_or, subst}
use Rattle.stream_backend.specs.Lines.{Line}
use Rattle.stream_backend.specs.Serving.{PassesLine}
use Rattle.stream_backend.proofs.PlaceLemmas.{on_wire_done}
use Rattle.stream_backend.proofs.lines.owe.Goals as goal

pub returns-in-Some-clause-ok : goal.returns-in-Some-clause-ok
returns-in-Some-clause-ok g c =
    let there = subst (λ (xs : List Line). (c.in-Some.at < length xs) × ((d : Line) → (get_or xs c.in-Some.at d).wire ≡ c.args.wire)) c.deref.ensures.value c.in-Some.ensures.some in
    on_wire_done c.args.lines.now.items c.in-Some.at c.args.wire (PassesLine c.args.item.now) c.index_mut.result.now c.owe_at.new.line c.owe_at.result c.requires.apart there.0 there.1 c.index_mut.ensures.value c.owe_at.ensures.ok
