use Rattle.std.proofs.Common.{ℕ, List, sym, subst}
use Rattle.journal_store.specs.Entries.{AreEntriesOf}
use Rattle.journal_store.proofs.Moments.{then_crash}
use Rattle.session_store.specs.Opened.{disk_of}
use Rattle.session_store.proofs.OpenedLemmas.{row_entered, same_entries, untouched_entries}
use Rattle.session_store.proofs.opening.open.Goals as goal

pub returns-in-All-clause-any_moment : goal.returns-in-All-clause-any_moment
returns-in-All-clause-any_moment g c = λ told only entries are.
    let seen = g.D.Disk.seen in
    let time = g.D.Disk.time in
    let left = g.D.Disk.left in
    let begun = (c.in-Opened.ensures.nothing_read told).1 in
    let are_then = subst (λ (l : List ℕ). AreEntriesOf l entries) (sym begun) are in
    let are_read = subst (λ (l : List ℕ). AreEntriesOf l entries) (sym (c.in-All.ensures.seen told)) are_then in
    let read = c.in-All.ensures.reads told in
    then_crash time left c.args.disk c.read_all.new.opening.disk (disk_of c.finish.result) (λ image. AreEntriesOf image entries)
    (then_crash time left c.args.disk c.in-Opened.opening.disk c.read_all.new.opening.disk (λ image. AreEntriesOf image entries)
    (untouched_entries time left c.args.disk c.in-Opened.opening.disk (seen c.args.disk) entries are (c.in-Opened.ensures.any_moment told only))
    (untouched_entries time left c.in-Opened.opening.disk c.read_all.new.opening.disk (seen c.in-Opened.opening.disk) entries are_then (c.in-All.ensures.any_moment told)))
    (same_entries time left c.read_all.new.opening.disk (disk_of c.finish.result) (seen c.read_all.new.opening.disk) entries read.0 are_read
    (row_entered seen time left c.read_all.new.opening read.0 c.read_all.new.sessions.items read.1 (c.read_all.ensures.ended c.in-All.is))
    (c.finish.ensures.any_moment told read.0 read.1))
