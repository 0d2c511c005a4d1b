use Rattle.std.proofs.Common.{refl, rules}
use Rattle.session_pump.specs.Hosts.{facts_of}
use Rattle.session_pump.proofs.ListLemmas.{got_read}
use Rattle.session_pump.proofs.PassingLemmas.{no_host, no_host_there}
use Rattle.session_pump.proofs.ServingLemmas.{lifted_turned, not_unopened, side_stays, told_nowhere}
use Rattle.session_pump.proofs.TurnedLemmas.{turned_none}
use Rattle.session_pump.proofs.serving.open_side.Goals as goal

pub returns-then-not-is_unopened-clause-moves : goal.returns-then-not-is_unopened-clause-moves
returns-then-not-is_unopened-clause-moves g c line place is = side_stays _ place _ line _ _ is c.requires

pub returns-in_default-clause-moves : goal.returns-in_default-clause-moves
returns-in_default-clause-moves g c line place is =
    told_nowhere _ place _ _ line c.args.side.now _ _ _ is (c.is_unopened.ensures.unopened c.if-not-is_unopened.false) (no_host _ c.args.side.now c.in_default.is)
    c.tell_nowhere.ensures.told c.tell_nowhere.ensures.lost c.tell_nowhere.ensures.err

pub returns-in_default-clause-opened : goal.returns-in_default-clause-opened
returns-in_default-clause-opened g c = not_unopened c.args.side.now _ _ c.tell_nowhere.ensures.lost

pub returns-in_default-get_mut-clause-moves : goal.returns-in_default-get_mut-clause-moves
returns-in_default-get_mut-clause-moves g c line place is =
    told_nowhere _ place _ _ line c.args.side.now _ _ _ is (c.is_unopened.ensures.unopened c.if-not-is_unopened.false)
    (no_host_there (facts_of g.E.Backend.told g.E.Backend.counts) _ c.args.side.now _ c.in-Some.is (search rules))
    c.tell_nowhere-in_default-get_mut.ensures.told c.tell_nowhere-in_default-get_mut.ensures.lost c.tell_nowhere-in_default-get_mut.ensures.err

pub returns-in_default-get_mut-clause-opened : goal.returns-in_default-get_mut-clause-opened
returns-in_default-get_mut-clause-opened g c = not_unopened c.args.side.now _ _ c.tell_nowhere-in_default-get_mut.ensures.lost

pub returns-clause-moves : goal.returns-clause-moves
returns-clause-moves g c line place is =
    lifted_turned (facts_of g.E.Backend.told g.E.Backend.counts) _ _ place _ _ _ line _ _ c.in-Some-get_mut.stand.now _ is c.in-Some.is
    (got_read c.args.hosts.now.stands.items c.args.hosts.now.stands.items _ c.in-Some-get_mut.stand.now refl (search rules) (search rules)) c.open_wire.ensures.kept
    (turned_none _ _ _ c.requires (λ k. c.open_wire.ensures.moves (g.C.Clock.moment c.args.clock.now) k line.kept))
