use Rattle.xmpp_stream.proofs.WireLemmas.{written_item}
use Rattle.xmpp_stream.proofs.outgoing.Outgoing.pass.Goals as goal

pub returns-clause-ok : goal.returns-clause-ok
returns-clause-ok c = λ start given passed h open_. written_item h c.args.item.now c.owe_item.new.self open_ c.in_ok-owe_item.ensures.ok
