use Rattle.session_table.proofs.LawLemmas.{one_of_name}
use Rattle.session_table.proofs.laws.names_differ.Goals as goal

pub returns : goal.returns
returns c = one_of_name
