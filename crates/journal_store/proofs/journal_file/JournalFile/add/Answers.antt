use Rattle.std.proofs.Common.{refl, ◌∙◌}
use Rattle.journal_store.proofs.EntryLemmas.{added_fits, waits_more}
use Rattle.journal_store.proofs.journal_file.JournalFile.add.Goals as goal

pub returns-clause-waits : goal.returns-clause-waits
returns-clause-waits g c = λ told stored waiting keeps.
    added_fits c.add.result c.deref.result.now _ _ c.add.ensures.added c.add.ensures.too_long (λ fits added.
    waits_more g.D.Disk.seen g.D.Disk.time g.D.Disk.left c.args.self.now (record c.args.self.now { waiting = c.add.new.self; room = c.write_content.new.into }) stored waiting
    (record { session = c.args.session; entry = c.args.entry.now }) c.deref.result.now keeps refl (c.deref.ensures.value ∙ c.in_ok-write_content.ensures.content) fits added)
