use Rattle.std.proofs.Common.{sym, ◌∙◌, arith}
use Rattle.journal_store.proofs.MemoryLemmas.{written_nothing}
use Rattle.journal_store.proofs.memory_disk.write_torn.Goals as goal

pub returns-in-Err-clause-torn : goal.returns-in-Err-clause-torn
returns-in-Err-clause-torn c = (0, omega arith, c.in-Err.ensures.err ∙ sym (written_nothing c.args.at c.args.with.now c.args.bytes.now.items))
