use Rattle.session_pump.specs.Pumping.{pumping_of}
use Rattle.bosh_server.proofs.pumping.last_turn.Goals as goal

pub returns : goal.returns
returns g c = record {
  told = pumping_of g.E.Backend.told g.E.Backend.counts c.shut_down.new.self;
  first = g.C.Clock.moment c.args.clock.now;
  shut = c.shut_down.result;
  shuts = c.shut_down.ensures.shuts_down;
  second = g.C.Clock.moment c.args.clock.now;
  count = c.turn.result;
  turns = c.turn.ensures.turns;
}
