use Rattle.session_laws.proofs.OneMore.{one_more, one_entry_more, state_one_more}
use Rattle.session_laws.proofs.laws.calls_make_longer_journals.Goals as goal

pub returns : goal.returns
returns c = record { made = one_more; entry = one_entry_more; state = state_one_more }
