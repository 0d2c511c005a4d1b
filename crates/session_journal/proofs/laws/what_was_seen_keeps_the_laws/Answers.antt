use Rattle.session_journal.proofs.SeenLemmas.{seen_keeps}
use Rattle.session_journal.proofs.laws.what_was_seen_keeps_the_laws.Goals as goal

pub returns : goal.returns
returns c = λ log journal here. seen_keeps log journal here (c.every_journal_keeps_the_laws.ensures.laws journal here.made)
