use Rattle.std.proofs.Common.{◌≡◌, ◌+◌, ◌≤◌, ℕ, length, drop, ◌∙◌, ap, refl, arith, length-drop}
use Rattle.std.proofs.lemmas.List.{with_items_is, length-take-le}
use Rattle.journal_store.specs.Disk.{part}
use Rattle.journal_store.proofs.OpeningLemmas.{has_more, still_only}
use Rattle.journal_store.proofs.opening.Opening.read_content.Goals as goal

pub returns-in-Done-clause-reads : goal.returns-in-Done-clause-reads
returns-in-Done-clause-reads g c = λ told contents read head open_end.
    let file = g.D.Disk.seen c.args.self.now.disk in
    let at = c.args.self.now.at in
    let lent : length c.deref_mut.result.now ≡ c.args.count = omega (arith, c.deref_mut.ensures.len, c.in-Ok.ensures.len) in
    let bytes : c.read.new.into ≡ part (at + 5) c.args.count file = c.read.ensures.bytes told c.in-Done.is ∙ ap (λ (n : ℕ). part (at + 5) n file) lent in
    let room : c.args.count ≤ length (drop (at + 5) file) = omega (arith, c.requires.within, (c.requires.head told).0, length-drop (at + 5) file) in
    let size : length c.read.new.into ≡ c.args.count = ap length bytes ∙ length-take-le c.args.count (drop (at + 5) file) room in
    let long : length c.read.new.into ≡ c.in-Ok.content.len = omega (arith, size, c.in-Ok.ensures.len) in
    has_more g.D.Disk.seen g.D.Disk.time g.D.Disk.left c.args.self.now (record c.args.self.now { disk = c.read.new.self; at = at + (5 + c.args.count) }) contents c.from_vec.result c.args.count read head
    (c.from_vec.ensures ∙ with_items_is c.in-Ok.content c.read.new.into long ∙ bytes)
    (c.read.ensures.seen told) refl refl (still_only _ _ _ _ _ read.durable (c.read.ensures.crash told)) open_end
