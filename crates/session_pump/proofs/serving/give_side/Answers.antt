use Rattle.std.proofs.Common.{refl, rules}
use Rattle.session_pump.specs.Hosts.{facts_of}
use Rattle.session_pump.specs.Sides.{owes_nothing, owes_nowhere}
use Rattle.session_pump.proofs.ListLemmas.{got_read}
use Rattle.session_pump.proofs.PassingLemmas.{no_host, no_host_there}
use Rattle.session_pump.proofs.ServingLemmas.{tried_at, tried_nothing}
use Rattle.session_pump.proofs.serving.give_side.Goals as goal

pub returns-then-is_none-clause-tries : goal.returns-then-is_none-clause-tries
returns-then-is_none-clause-tries g c line place is = tried_nothing (g.C.Clock.moment c.args.clock.now) _ place _ line _ _ is (λ k. owes_nothing _ is (search rules)) c.requires

pub returns-in_default-clause-tries : goal.returns-in_default-clause-tries
returns-in_default-clause-tries g c line place is = tried_nothing (g.C.Clock.moment c.args.clock.now) _ place _ line _ _ is (λ k. owes_nowhere _ is (no_host _ c.args.side.now c.in_default.is)) c.requires

pub returns-in_default-get_mut-clause-tries : goal.returns-in_default-get_mut-clause-tries
returns-in_default-get_mut-clause-tries g c line place is =
    tried_nothing (g.C.Clock.moment c.args.clock.now) _ place _ line _ _ is (λ k. owes_nowhere _ is (no_host_there (facts_of g.E.Backend.told g.E.Backend.counts) _ c.args.side.now _ c.in-Some.is (search rules))) c.requires

pub returns-clause-tries : goal.returns-clause-tries
returns-clause-tries g c line place is =
    tried_at (g.C.Clock.moment c.args.clock.now) (facts_of g.E.Backend.told g.E.Backend.counts) _ _ place _ _ _ line _ _ c.in-Some-get_mut.stand.now _ _ is c.in-Some.is
    (got_read c.args.hosts.now.stands.items c.args.hosts.now.stands.items _ c.in-Some-get_mut.stand.now refl (search rules) (search rules)) c.give_owed.ensures.kept (c.give_owed.ensures.tries line.kept)
