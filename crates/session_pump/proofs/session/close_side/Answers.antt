use Rattle.std.proofs.Common.{refl, rules}
use Rattle.session_pump.specs.Hosts.{facts_of}
use Rattle.session_pump.proofs.ListLemmas.{got_read}
use Rattle.session_pump.proofs.PassingLemmas.{no_host, no_host_there}
use Rattle.session_pump.proofs.TurnLemmas.{closed_at, closed_not, closed_nothing, open_nowhere}
use Rattle.session_pump.proofs.session.close_side.Goals as goal

pub returns-in_default : goal.returns-in_default
returns-in_default g c = record { closes = λ line place known is. closed_nothing place known line _ _ is (open_nowhere _ _ (no_host _ c.args.side.now c.in_default.is)) }

pub returns-in_default-get_mut : goal.returns-in_default-get_mut
returns-in_default-get_mut g c = record {
  closes = λ line place known is.
      closed_nothing place known line _ _ is (open_nowhere _ _ (no_host_there (facts_of g.E.Backend.told g.E.Backend.counts) _ c.args.side.now _ c.in-Some.is (search rules)));
}

pub returns-then-not-is_open_on : goal.returns-then-not-is_open_on
returns-then-not-is_open_on g c = record {
  closes = λ line place known is.
      closed_not (facts_of g.E.Backend.told g.E.Backend.counts) _ place _ known line _ c.in-Some-get_mut.stand.now is c.in-Some.is
      (got_read c.args.hosts.now.stands.items c.args.hosts.now.stands.items _ c.in-Some-get_mut.stand.now refl (search rules) (search rules))
      (c.is_open_on.ensures.closed c.if-not-is_open_on.true);
}

pub close_open-requires : goal.close_open-requires
close_open-requires g c = c.is_open_on.ensures.open c.if-not-is_open_on.false

pub returns : goal.returns
returns g c = record {
  closes = λ line place known is.
      closed_at (facts_of g.E.Backend.told g.E.Backend.counts) _ place _ known line _ _ c.in-Some-get_mut.stand.now _ _ is c.in-Some.is
      (got_read c.args.hosts.now.stands.items c.args.hosts.now.stands.items _ c.in-Some-get_mut.stand.now refl (search rules) (search rules)) c.close_open.ensures.kept (c.close_open.ensures.closes known line.kept);
}
