use Rattle.std.proofs.Common.{◌≡◌, ◌+◌, List, ℕ, [], ◌∷◌, ◌++◌, length, refl, sym, ◌∙◌, ap, subst, arith, length-append}
use Rattle.std.proofs.lemmas.List.{append-nil}
use Rattle.journal_store.specs.RecordFile.{IsAtRest}
use Rattle.journal_store.specs.Records.{HasLength, records_of}
use Rattle.journal_store.proofs.RecordLemmas.{none_added, all-append, records-append}
use Rattle.journal_store.proofs.record_file.RecordFile.store.Goals as goal

-- where there is no record to store it stands as it did
pub returns-then-is_empty-clause-stored : goal.returns-then-is_empty-clause-stored
returns-then-is_empty-clause-stored g c = λ told is_done contents added fits is rest.
    let none = none_added c.args.group.now added (sym c.is_empty.ensures ∙ c.if-is_empty.true) is in
    subst (λ (l : List (List ℕ)). IsAtRest g.D.Disk.seen g.D.Disk.time g.D.Disk.left c.args.self.now l) (sym (ap (λ (l : List (List ℕ)). contents ++ l) none ∙ append-nil contents)) rest

pub returns-in-Done-clause-stored : goal.returns-in-Done-clause-stored
returns-in-Done-clause-stored g c = λ told is_done contents added fits is rest.
    let sizes : length (records_of (contents ++ added)) ≡ length (records_of contents) + length (records_of added) =
    ap length (records-append contents added) ∙ length-append (records_of contents) (records_of added) in
    let size : length c.args.group.now ≡ length (records_of added) = ap length is in
    record {
      content = c.put_behind.ensures.stored told c.in-Done.is contents added rest.content rest.end (c.behind_gate.ensures.behind ∙ ap (λ (l : List ℕ). l ++ 0 ∷ []) is);
      lengths = all-append HasLength contents added rest.lengths fits;
      end = omega (arith, sizes, size, rest.end);
      durable = c.put_behind.ensures.durable told c.in-Done.is;
      unspent = rest.unspent;
    }

pub returns-in-Done-clause-ready : goal.returns-in-Done-clause-ready
returns-in-Done-clause-ready g c = λ told unspent.
    let rest = c.requires told unspent in
    let records = c.behind_gate.ensures.records in
    (rest.0 ++ records.contents, returns-in-Done-clause-stored g c told refl rest.0 records.contents records.lengths records.split rest.1)
