use Rattle.std.proofs.Common.{ℕ, refl, ap}
use Rattle.serve_journal.specs.declared.writer.Early.{Early}
use Rattle.serve_journal.specs.declared.writer.Writer.{Writer}
use Rattle.serve_journal.proofs.WriteLemmas.{takes_one}
use Rattle.serve_journal.proofs.writer.Writer.note.Goals as goal

pub returns-clause-writes : goal.returns-clause-writes
returns-clause-writes g c = λ told stored waiting writes.
    let new : Writer _ = record { store = c.args.self.now.store; early = c.push.new.self; taken = c.add.new.self } in
    let early : Early = record { place = c.len-place.result; noted = c.args.noted } in
    takes_one g.D.Disk.seen g.D.Disk.time g.D.Disk.left c.args.self.now new stored waiting writes c.args.noted early
    (ap (λ (n : ℕ). record { place = n; noted = c.args.noted }) c.len-place.ensures) refl c.add.ensures c.in_ok-push.ensures.items
