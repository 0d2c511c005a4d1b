use Rattle.std.proofs.Common.{◌∙◌, List, length, map, ap}
use Rattle.session_journal.specs.declared.entry.Entry.{Entry}
use Rattle.journal_store.specs.Entries.{contents_of}
use Rattle.session_store.proofs.OpenedLemmas.{all_counted, row_entered, still}
use Rattle.session_store.proofs.opening.finish.Goals as goal

pub returns-in-Opened-clause-brings : goal.returns-in-Opened-clause-brings
returns-in-Opened-clause-brings g c = λ told.
    let entries = (c.requires.read told).0 in
    let has = (c.requires.read told).1 in (
      entries,
      row_entered g.D.Disk.seen g.D.Disk.time g.D.Disk.left c.args.opening entries c.args.sessions.items has c.requires.ended,
      has.written,
      has.journals,
      all_counted g.D.Disk.seen g.D.Disk.time g.D.Disk.left (record { journals = c.new-journals.result; counts = c.in-Ok.counts }) entries c.args.sessions.items has.written has.are_logs
          (c.in-Ok.ensures ∙ ap (map (λ (log : List Entry). length log)) c.as_slice.ensures.value)
          (c.new-journals.ensures.keeps told entries (c.in-Opened.ensures.opened told (contents_of entries) has.row)),
      has.are_logs,
    )

pub returns-in-Opened-clause-ready : goal.returns-in-Opened-clause-ready
returns-in-Opened-clause-ready g c = λ told.
    let entries = (c.requires.read told).0 in
    let has = (c.requires.read told).1 in
    λ unspent. (contents_of entries, still g.D.Disk.seen g.D.Disk.time g.D.Disk.left c.in-Opened.file c.new-journals.result.file (contents_of entries) c.new-journals.ensures.file (c.in-Opened.ensures.opened told (contents_of entries) has.row))
