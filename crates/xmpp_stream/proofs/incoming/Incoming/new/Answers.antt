use Rattle.std.proofs.Common.{refl}
use Rattle.xmpp_stream.proofs.ReadLemmas.{read_first}
use Rattle.xmpp_stream.proofs.incoming.Incoming.new.Goals as goal

pub returns : goal.returns
returns c = λ start. read_first start _ refl c.new-cutter.ensures
