use Rattle.server_ports.proofs.ExchangeLemmas.{retired_adds}
use Rattle.server_ports.proofs.laws.a_retired_link_adds_its_exchange.Goals as goal

pub returns : goal.returns
returns c = retired_adds
