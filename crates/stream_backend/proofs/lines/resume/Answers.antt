use Rattle.std.proofs.Common.{◌≡◌, ◌<◌, List, length, get_or, subst}
use Rattle.stream_backend.specs.Lines.{Line}
use Rattle.stream_backend.specs.Serving.{ResumesLine}
use Rattle.stream_backend.proofs.PlaceLemmas.{on_wire_at}
use Rattle.stream_backend.proofs.lines.resume.Goals as goal

pub returns-in-Some : goal.returns-in-Some
returns-in-Some g c =
    let there = subst (λ (xs : List Line). (c.in-Some.at < length xs) × ((d : Line) → (get_or xs c.in-Some.at d).wire ≡ c.args.wire)) c.deref.ensures.value c.in-Some.ensures.some in
    on_wire_at c.args.lines.now.items c.in-Some.at c.args.wire ResumesLine c.index_mut.result.now c.resume.new.self c.requires there.0 there.1 c.index_mut.ensures.value c.resume.ensures
