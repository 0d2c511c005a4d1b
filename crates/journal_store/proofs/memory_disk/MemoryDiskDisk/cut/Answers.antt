use Rattle.std.proofs.Common.{[], ◌∷◌, ◌++◌, inl, inr, refl, ◌∙◌, ap}
use Rattle.journal_store.specs.MemoryDisk.{Changes, Memory}
use Rattle.journal_store.specs.Disk.{CutOrNot}
use Rattle.journal_store.specs.declared.memory_disk.Change.TheVariants.{Cut}
use Rattle.journal_store.proofs.MemoryLemmas.{goes_on, holds_after}
use Rattle.journal_store.proofs.memory_disk.MemoryDiskDisk.cut.Goals as goal

pub invariant_of-self : goal.invariant_of-self
invariant_of-self c =
    holds_after c.self.inside.changes.items c.and-self-inside.result.items c.self.inside.bytes (Cut c.args.to) c.truncate.new.self.items c.and-self-inside.ensures
    (c.self.inside.bytes.items, c.self.invariant, inr c.truncate.ensures.items)

pub invariant_of-self-in-Failed : goal.invariant_of-self-in-Failed
invariant_of-self-in-Failed c =
    holds_after c.self.inside.changes.items c.and-self-inside.result.items c.self.inside.bytes (Cut c.args.to) c.self.inside.bytes.items c.and-self-inside.ensures
    (c.self.inside.bytes.items, c.self.invariant, inl refl)

pub returns-in-Done-clause-crash : goal.returns-in-Done-clause-crash
returns-in-Done-clause-crash c = λ told.
    let changed = ap (λ (l : Changes). l ++ (c.self.inside.bytes, Cut c.args.to) ∷ []) (ap (λ (m : Memory). m.changes) c.self.view_is) in
    goes_on c.args.self.now.changes c.and-self-inside.result.items c.self.inside.bytes (Cut c.args.to) (CutOrNot c.args.to) (c.and-self-inside.ensures ∙ changed) (λ image is. is)

pub returns-in-Failed-clause-crash : goal.returns-in-Failed-clause-crash
returns-in-Failed-clause-crash c = λ told.
    let changed = ap (λ (l : Changes). l ++ (c.self.inside.bytes, Cut c.args.to) ∷ []) (ap (λ (m : Memory). m.changes) c.self.view_is) in
    goes_on c.args.self.now.changes c.and-self-inside.result.items c.self.inside.bytes (Cut c.args.to) (CutOrNot c.args.to) (c.and-self-inside.ensures ∙ changed) (λ image is. is)
