use Rattle.std.proofs.Common.{◌∙◌, ℕ, List, ap, subst, take}
use Rattle.journal_store.specs.Crash.{EachCrash}
use Rattle.journal_store.specs.Disk.{CutOrNot, Torn}
use Rattle.journal_store.proofs.ClearLemmas.{none_left}
use Rattle.journal_store.proofs.record_file.empty.Goals as goal

pub returns-in-Done-clause-any_moment : goal.returns-in-Done-clause-any_moment
returns-in-Done-clause-any_moment g c = λ told contents fits is only.
    let time = g.D.Disk.time in
    let left = g.D.Disk.left in
    none_left time left contents fits c.args.disk.now c.trim.new.disk
    (subst (λ (f : List ℕ). EachCrash time left c.args.disk.now c.trim.new.disk (CutOrNot 0 f)) is (c.trim.ensures.any_moment told only)) c.put.new.disk
    (subst (λ (f : List ℕ). EachCrash time left c.trim.new.disk c.put.new.disk (Torn 0 1 f)) (c.trim.ensures.cut told c.in-Done.is ∙ ap (λ (f : List ℕ). take 0 f) is)
    (c.put.ensures.any_moment told (c.trim.ensures.durable told c.in-Done.is)))
