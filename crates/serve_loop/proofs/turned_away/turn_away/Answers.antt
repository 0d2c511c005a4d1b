use Rattle.std.proofs.Common.{subst, sym}
use Rattle.std.specs.Io.KnownBytes.{Keeps}
use Rattle.bosh_ports.specs.Sink.{AppendsFront}
use Rattle.polled_http.specs.Giving.{GivesFrom}
use Rattle.serve_loop.specs.declared.owed.Owed.TheVariants as owed
use Rattle.serve_loop.specs.Connections.{message}
use Rattle.serve_loop.proofs.SteppingLemmas.{front_of, message_is}
use Rattle.serve_loop.proofs.turned_away.turn_away.Goals as goal

pub returns-clause-given : goal.returns-clause-given
returns-clause-given g c =
    let port = g.K.Polled in
    let is = message_is owed.NoMemory c.status.result c.text.result.now c.closes.result c.status.ensures c.text.ensures c.closes.ensures in
    front_of (message owed.NoMemory) (port.given c.args.link.now) (port.given c.give.new.link) (port.given c.close.new.self) c.give.result
    (subst (λ text. GivesFrom text 0 (port.given c.args.link.now) (port.given c.give.new.link) c.give.result) is c.give.ensures.given) c.close.ensures.given
