use Rattle.journal_store.proofs.RecordLemmas.{one_row, row_of_file}
use Rattle.journal_store.proofs.laws.an_image_has_one_row.Goals as goal

pub returns-clause-one : goal.returns-clause-one
returns-clause-one c = one_row

pub returns-clause-whole : goal.returns-clause-whole
returns-clause-whole c = row_of_file
