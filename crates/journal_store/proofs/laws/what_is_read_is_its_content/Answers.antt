use Rattle.journal_store.proofs.FoundLemmas.{entry_found}
use Rattle.journal_store.proofs.laws.what_is_read_is_its_content.Goals as goal

pub returns : goal.returns
returns c = entry_found
