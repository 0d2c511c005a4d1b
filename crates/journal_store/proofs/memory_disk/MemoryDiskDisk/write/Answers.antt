use Rattle.std.proofs.Common.{◌≡◌, ◌≤◌, [], ◌∷◌, ◌++◌, length, ◌∙◌, ap, arith}
use Rattle.journal_store.specs.Disk.{Torn}
use Rattle.journal_store.specs.MemoryDisk.{Changes, Memory}
use Rattle.journal_store.specs.declared.memory_disk.Change.TheVariants.{Written}
use Rattle.journal_store.proofs.MemoryLemmas.{goes_on, holds_after, torn_by_result, torn_by_count}
use Rattle.journal_store.proofs.memory_disk.MemoryDiskDisk.write.Goals as goal

pub invariant_of-self : goal.invariant_of-self
invariant_of-self c =
    let same : c.self.inside.bytes.items ≡ c.args.self.now.bytes = ap (λ (m : Memory). m.bytes) c.self.view_is in
    let within : c.args.at ≤ length c.self.inside.bytes.items = omega (arith, c.requires tt, ap length same) in
    holds_after c.self.inside.changes.items c.and-self-inside.result.items c.self.inside.bytes (Written c.args.at (length c.args.bytes.now)) c.write_all.new.bytes.items c.and-self-inside.ensures (
      c.self.inside.bytes.items,
      c.self.invariant,
      torn_by_result c.write_all.result c.args.at c.args.bytes.now c.self.inside.bytes.items c.write_all.new.bytes.items within c.write_all.ensures.done c.write_all.ensures.failed,
    )

pub invariant_of-self-in-Failed : goal.invariant_of-self-in-Failed
invariant_of-self-in-Failed c =
    let same : c.self.inside.bytes.items ≡ c.args.self.now.bytes = ap (λ (m : Memory). m.bytes) c.self.view_is in
    let within : c.args.at ≤ length c.self.inside.bytes.items = omega (arith, c.requires tt, ap length same) in
    let torn = c.write_torn.ensures.torn in
    holds_after c.self.inside.changes.items c.and-self-inside.result.items c.self.inside.bytes (Written c.args.at (length c.args.bytes.now)) c.write_torn.new.bytes.items c.and-self-inside.ensures
    (c.self.inside.bytes.items, c.self.invariant, torn_by_count torn.0 c.args.at c.args.bytes.now c.self.inside.bytes.items c.write_torn.new.bytes.items within torn.1 torn.2)

pub returns-in-Done-clause-crash : goal.returns-in-Done-clause-crash
returns-in-Done-clause-crash c = λ told.
    let changed = ap (λ (l : Changes). l ++ (c.self.inside.bytes, Written c.args.at (length c.args.bytes.now)) ∷ []) (ap (λ (m : Memory). m.changes) c.self.view_is) in
    goes_on c.args.self.now.changes c.and-self-inside.result.items c.self.inside.bytes (Written c.args.at (length c.args.bytes.now)) (Torn c.args.at (length c.args.bytes.now))
    (c.and-self-inside.ensures ∙ changed) (λ image is. is)

pub returns-in-Failed-clause-crash : goal.returns-in-Failed-clause-crash
returns-in-Failed-clause-crash c = λ told.
    let changed = ap (λ (l : Changes). l ++ (c.self.inside.bytes, Written c.args.at (length c.args.bytes.now)) ∷ []) (ap (λ (m : Memory). m.changes) c.self.view_is) in
    goes_on c.args.self.now.changes c.and-self-inside.result.items c.self.inside.bytes (Written c.args.at (length c.args.bytes.now)) (Torn c.args.at (length c.args.bytes.now))
    (c.and-self-inside.ensures ∙ changed) (λ image is. is)
