use Rattle.journal_store.proofs.FormatLemmas.{entry_again}
use Rattle.journal_store.proofs.laws.a_content_is_read_as_its_entry.Goals as goal

pub returns : goal.returns
returns c = entry_again
