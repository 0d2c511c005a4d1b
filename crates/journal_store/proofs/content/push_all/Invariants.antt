use Rattle.std.proofs.Common.{◌≡◌, ◌++◌, drop}
use Rattle.std.specs.List.{AllByRecursion}
use Rattle.journal_store.specs.Contents.{all_framed}
use Rattle.journal_store.specs.Records.{HasLength}
use Rattle.journal_store.proofs.content.push_all.Given as goal

-- what is there and the texts that are left are all
abbrev pub invariant-loop-text : goal.invariant-loop-text
invariant-loop-text l = record {
  all : l.into.items ++ all_framed (drop l.text-index l.texts) ≡ l.fn.into.items ++ all_framed l.texts;
  lengths : AllByRecursion HasLength l.texts → AllByRecursion HasLength (drop l.text-index l.texts);
}
