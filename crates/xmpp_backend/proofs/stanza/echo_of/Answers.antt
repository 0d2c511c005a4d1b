use Rattle.std.proofs.Common.{rules}
use Rattle.xmpp_backend.proofs.KindLemmas.{features-stanza}
use Rattle.xmpp_backend.proofs.stanza.echo_of.Goals as goal

pub returns-in_ok-features-in-Restart-clause-text : goal.returns-in_ok-features-in-Restart-clause-text
returns-in_ok-features-in-Restart-clause-text c = rw c.in_ok-features-in-Restart.ensures (search (rules, features-stanza))
