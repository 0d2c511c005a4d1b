use Rattle.std.proofs.Common.{◌≡◌, Some, refl, length}
use Rattle.std.specs.Prelude.{slice_get}
use Rattle.std.proofs.lemmas.Option.{slice_get_read}
use Rattle.serve_journal.specs.declared.writer.Writer.{Writer}
use Rattle.serve_journal.proofs.WriteLemmas.{puts_one, then_ok}
use Rattle.serve_journal.proofs.writer.Writer.put.Goals as goal

pub returns-clause-puts : goal.returns-clause-puts
returns-clause-puts g c = λ told stored waiting writes.
    let new : Writer _ = record { store = c.add.new.store; early = c.remove-early.new.self; taken = c.args.self.now.taken } in
    let at : slice_get c.args.self.now.early.items c.args.place ≡ Some c.remove-early.result =
    slice_get_read c.args.self.now.early.items (length c.args.self.now.early.items) c.args.place c.remove-early.result refl c.requires.within c.remove-early.ensures.value in
    let next = c.requires.next told stored waiting writes.store c.remove-early.result at in
    then_ok c.add.result _ _
    (λ stores. puts_one g.D.Disk.seen g.D.Disk.time g.D.Disk.left c.args.self.now new stored waiting writes c.args.place c.remove-early.result at next refl c.remove-early.ensures.by_index.2 stores)
    (c.add.ensures.adds told next.some stored waiting writes.store)
