use Rattle.std.proofs.Common.{◌∙◌, ◌++◌, List, map, take, subst, arith}
use Rattle.std.proofs.lemmas.List.{take_all}
use Rattle.session_journal.specs.declared.entry.Entry.{Entry}
use Rattle.std.specs.List.{AllByRecursion}
use Rattle.journal_store.specs.Entries.{Keeps}
use Rattle.journal_store.specs.declared.reading.SessionEntry.{SessionEntry}
use Rattle.session_store.specs.Store.{FitsNumbers, of_session}
use Rattle.session_store.proofs.FitLemmas.{numbers_next}
use Rattle.session_store.proofs.StoreLemmas.{waits_next}
use Rattle.session_store.proofs.store.add_all.Goals as goal

pub loop-entry-preserved : goal.loop-entry-preserved
loop-entry-preserved g c = record {
  waits = λ told stored waiting keeps.
      subst (λ (l : List SessionEntry). Keeps g.D.Disk.seen g.D.Disk.time g.D.Disk.left c.add.new.self stored l)
      (waits_next c.args.session waiting c.args.entries.now c.loop-entry.entry-index c.entry-item.result (omega (arith, c.loop-entry-test.true)) c.entry-item.is)
      (c.in_ok-add.ensures.waits told stored (waiting ++ map (of_session c.args.session) (take c.loop-entry.entry-index c.args.entries.now)) (c.loop-entry.invariant.waits told stored waiting keeps));
  numbers = numbers_next c.args.session c.loop-entry.entry-index c.args.entries.now c.entry-item.result (omega (arith, c.loop-entry-test.true)) c.entry-item.is c.know_numbers.ensures c.loop-entry.invariant.numbers;
  file = c.add.ensures.file ∙ c.loop-entry.invariant.file;
}

pub returns-clause-waits : goal.returns-clause-waits
returns-clause-waits g c = λ told stored waiting keeps.
    subst (λ (l : List Entry). Keeps g.D.Disk.seen g.D.Disk.time g.D.Disk.left c.loop-entry.journals stored (waiting ++ map (of_session c.args.session) l))
    (take_all c.loop-entry.entry-index c.args.entries.now (omega (arith, c.loop-entry-test.false)))
    (c.loop-entry.invariant.waits told stored waiting keeps)

pub returns-clause-numbers : goal.returns-clause-numbers
returns-clause-numbers g c =
    subst (λ (l : List Entry). AllByRecursion FitsNumbers (map (of_session c.args.session) l)) (take_all c.loop-entry.entry-index c.args.entries.now (omega (arith, c.loop-entry-test.false)))
    c.loop-entry.invariant.numbers
