use Rattle.session_store.proofs.WholeLemmas.{not_damaged}
use Rattle.session_store.proofs.laws.a_file_of_journals_is_not_damaged.Goals as goal

pub returns : goal.returns
returns c = not_damaged
