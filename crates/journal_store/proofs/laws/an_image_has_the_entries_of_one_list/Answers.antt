use Rattle.journal_store.proofs.EntryLemmas.{one_list, journal-append}
use Rattle.journal_store.proofs.laws.an_image_has_the_entries_of_one_list.Goals as goal

pub returns-clause-one : goal.returns-clause-one
returns-clause-one c = one_list

pub returns-clause-journals : goal.returns-clause-journals
returns-clause-journals c = journal-append
