use Rattle.std.proofs.Common.{◌∙◌, ◌++◌, [], List, refl, ap}
use Rattle.serve_journal.specs.Writing.{IsFar, far_in}
use Rattle.serve_journal.specs.declared.writer.Early.{Early}
use Rattle.serve_journal.specs.declared.writer.Writer.{Writer}
use Rattle.serve_journal.proofs.WriteLemmas.{is_far, written}
use Rattle.serve_journal.proofs.writer.Writer.write.Goals as goal

pub tell-requires : goal.tell-requires
tell-requires g c =
    is_far c.put_all.new.self.taken c.put_all.new.self.early.items c.len.result c.far_of-stored.result c.len.ensures
    (c.far_of-stored.ensures ∙ ap (λ (l : List Early). far_in c.len.result l) c.as_slice.ensures.value)

pub returns-clause-stored : goal.returns-clause-stored
returns-clause-stored g c = λ told stored writes.
    let new : Writer _ = record { store = c.store.new.self; early = c.put_all.new.self.early; taken = c.put_all.new.self.taken } in
    let far : IsFar c.put_all.new.self.taken c.put_all.new.self.early.items c.far_of-stored.result =
    is_far c.put_all.new.self.taken c.put_all.new.self.early.items c.len.result c.far_of-stored.result c.len.ensures
    (c.far_of-stored.ensures ∙ ap (λ (l : List Early). far_in c.len.result l) c.as_slice.ensures.value) in
    let put = c.in-Ok.ensures.puts told stored [] writes in
    written g.D.Disk.seen g.D.Disk.time g.D.Disk.left c.put_all.new.self new stored c.far_of-stored.result put refl refl
    (c.store.ensures.stored told c.in-Done.is stored ([] ++ put.more) put.writes.store) far
