use Rattle.std.proofs.Common.{◌+◌, ◌++◌, ◌∙◌, refl, ap, ap₂, take, drop, slice_range}
use Rattle.bosh_http.proofs.TakenLemmas.{range_more}
use Rattle.bosh_http.proofs.taken.Taken.fill.Goals as goal

pub returns-in-Bytes-clause-takes : goal.returns-in-Bytes-clause-takes
returns-in-Bytes-clause-takes g c =
    let room = c.reserve.new.self in
    let items = c.take.new.self.bytes.items in
    let came = take c.in-Bytes.count (drop room.end items) in (
      came,
      c.in-Bytes.ensures.takes.2,
      ap₂ (λ start end. slice_range items start (end + c.in-Bytes.count)) c.in-Bytes.ensures.start c.in-Bytes.ensures.end
          ∙ range_more items items room.start room.end c.in-Bytes.count c.reserve.ensures.ordered refl
          ∙ ap (λ kept. kept ++ came) (c.in-Bytes.ensures.same ∙ c.reserve.ensures.same ∙ c.self.view_is),
    )
