use Rattle.std.proofs.Common.{◌∙◌, sym, ap, subst, take, drop, slice_range}
use Rattle.std.proofs.lemmas.List.{with_items_is}
use Rattle.bosh_ports.specs.Source.{Takes}
use Rattle.bosh_http.proofs.TakenLemmas.{range_stays}
use Rattle.bosh_http.proofs.room.Room.take.Goals as goal

pub returns-clause-same : goal.returns-clause-same
returns-clause-same g c =
    let room = c.args.self.now in
    let items = with_items_is room.bytes c.take_after.new.room (c.take_after.ensures.len ∙ c.deref_mut.ensures.len) in
    ap (λ xs. slice_range xs room.start room.end) items
    ∙ range_stays room.bytes.items c.take_after.new.room room.start room.end c.requires.ordered (c.take_after.ensures.front ∙ ap (take room.end) c.deref_mut.ensures.value)

pub returns-clause-takes : goal.returns-clause-takes
returns-clause-takes g c =
    let room = c.args.self.now in
    let items = with_items_is room.bytes c.take_after.new.room (c.take_after.ensures.len ∙ c.deref_mut.ensures.len) in
    subst (λ xs. Takes (g.L.Link.left c.args.link.now) (g.L.Link.left c.take_after.new.link) (drop room.end xs) c.take_after.result) (sym items) c.take_after.ensures.takes
