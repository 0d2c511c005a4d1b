use Rattle.std.proofs.Common.{[], ◌∷◌, ◌++◌, refl, ◌∙◌, ap, subst}
use Rattle.journal_store.specs.Disk.{Untouched}
use Rattle.journal_store.specs.MemoryDisk.{Changes, Memory, left_by}
use Rattle.journal_store.specs.declared.memory_disk.Change.TheVariants.{Synced}
use Rattle.journal_store.proofs.MemoryLemmas.{goes_on, holds_after, synced_only}
use Rattle.journal_store.proofs.memory_disk.MemoryDiskDisk.sync.Goals as goal

pub invariant_of-self : goal.invariant_of-self
invariant_of-self c =
    holds_after c.self.inside.changes.items c.and-self-inside.result.items c.self.inside.bytes Synced c.self.inside.bytes.items c.and-self-inside.ensures refl

pub returns-in-Done-clause-durable : goal.returns-in-Done-clause-durable
returns-in-Done-clause-durable c = λ told done image left.
    synced_only c.self.inside.changes.items c.and-self-inside.result.items c.self.inside.bytes c.and-self-inside.ensures image left ∙ ap (λ (m : Memory). m.bytes) c.self.view_is

pub returns-in-Done-clause-crash : goal.returns-in-Done-clause-crash
returns-in-Done-clause-crash c = λ told.
    let same = ap (λ (m : Memory). m.changes) c.self.view_is in
    goes_on c.args.self.now.changes c.and-self-inside.result.items c.self.inside.bytes Synced Untouched (c.and-self-inside.ensures ∙ ap (λ (l : Changes). l ++ (c.self.inside.bytes, Synced) ∷ []) same)
    (λ image is. (c.self.inside.bytes.items, subst (λ (l : Changes). left_by l c.self.inside.bytes.items) same c.self.invariant, is))
