use Rattle.std.proofs.Common.{◌≡◌, ℕ, List, sym, ◌∙◌, subst}
use Rattle.journal_store.specs.RecordFile.{IsAtRest}
use Rattle.journal_store.specs.declared.record_file.RecordFile.{RecordFile}
use Rattle.disk_tests.proofs.crashes.run.Goals as goal

-- a file that is the same stands as it did
still : {D : Type 0} (seen : D → List ℕ) (time : D → ℕ) (left : D → ℕ → List ℕ → Type 0) (old new : RecordFile D) (contents : List (List ℕ)) → new ≡ old
    → IsAtRest seen time left old contents → IsAtRest seen time left new contents
still seen time left old new contents same rest = subst (λ (f : RecordFile _). IsAtRest seen time left f contents) (sym same) rest

pub read_row-requires : goal.read_row-requires
read_row-requires c = λ told. (c.in-Opened.ensures.nothing_read told).0

-- the file that was opened stands at rest
pub store-first-requires : goal.store-first-requires
store-first-requires c = λ told unspent.
    let contents = c.in-Ok.field-0.items in
    let rest = c.in-Opened-finish.ensures.opened told contents (c.in-Ok.ensures.read told).0 in
    (contents, still _ _ _ c.in-Opened-finish.file c.add.new.self.file contents (c.add.ensures.file ∙ c.new-journals.ensures.file) rest)
