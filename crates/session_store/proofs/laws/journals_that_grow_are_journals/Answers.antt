use Rattle.session_store.proofs.GrownLemmas.{journals_grow}
use Rattle.session_store.proofs.laws.journals_that_grow_are_journals.Goals as goal

pub returns : goal.returns
returns c = journals_grow
