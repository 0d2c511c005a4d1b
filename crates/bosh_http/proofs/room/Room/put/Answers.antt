use Rattle.std.proofs.Common.{◌+◌, ◌++◌, ◌∙◌, ap, length, take, slice_range}
use Rattle.std.proofs.lemmas.List.{with_items_is}
use Rattle.bosh_http.proofs.TakenLemmas.{range_more}
use Rattle.bosh_http.proofs.room.Room.put.Goals as goal

pub returns-clause-kept : goal.returns-clause-kept
returns-clause-kept c =
    let room = c.args.self.now in
    let items = with_items_is room.bytes c.put_after.new.room (c.put_after.ensures.len ∙ c.deref_mut.ensures.len) in
    ap (λ xs. slice_range xs room.start (room.end + length c.args.bytes.now)) items
    ∙ range_more room.bytes.items c.put_after.new.room room.start room.end (length c.args.bytes.now) c.requires.ordered (c.put_after.ensures.front ∙ ap (take room.end) c.deref_mut.ensures.value)
    ∙ ap (λ more. slice_range room.bytes.items room.start room.end ++ more) c.put_after.ensures.bytes
