use Rattle.server_ports.proofs.ExchangeLemmas.{share_adds}
use Rattle.server_ports.proofs.laws.a_share_adds_its_exchanges.Goals as goal

pub returns : goal.returns
returns c = share_adds
