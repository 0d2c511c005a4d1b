use Rattle.std.proofs.Common.{◌≡◌, List, subst}
use Rattle.journal_store.specs.declared.reading.SessionEntry.{SessionEntry}
use Rattle.journal_store.specs.Crash.{EachCrash}
use Rattle.journal_store.proofs.EntryLemmas.{one_list}
use Rattle.journal_store.proofs.Moments.{then_crash}
use Rattle.serve_journal.specs.Bringing.{LeavesLive}
use Rattle.serve_journal.proofs.BringingLemmas.{leaves_all}
use Rattle.serve_journal.proofs.bringing.bring.Goals as goal

pub returns-in-Ok-Some-clause-brings : goal.returns-in-Ok-Some-clause-brings
returns-in-Ok-Some-clause-brings g c = λ told.
    let all = c.in-Store.ensures.brings told in
    (all.0, all.1, all.3, c.in-Store.sessions.items, all.5, c.let_ended_go.ensures.keeps told c.in-Done.is all.0 all.5 all.4)

pub returns-in-Ok-Some-clause-any_moment : goal.returns-in-Ok-Some-clause-any_moment
returns-in-Ok-Some-clause-any_moment g c = λ told only entries fits are.
    let time = g.D.Disk.time in
    let left = g.D.Disk.left in
    let all = c.in-Store.ensures.brings told in
    let same : all.0 ≡ entries = one_list (g.D.Disk.seen c.args.disk) all.0 entries all.2 fits all.1 are in
    then_crash time left c.args.disk c.in-Store.store.journals.file.disk c.let_ended_go.new.store.journals.file.disk (LeavesLive entries)
    (leaves_all time left entries c.args.disk c.in-Store.store.journals.file.disk (c.in-Store.ensures.any_moment told only entries are))
    (subst (λ (l : List SessionEntry). EachCrash time left c.in-Store.store.journals.file.disk c.let_ended_go.new.store.journals.file.disk (LeavesLive l)) same
    (c.let_ended_go.ensures.any_moment told all.0 all.5 all.4))
