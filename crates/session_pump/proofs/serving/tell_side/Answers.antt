use Rattle.std.proofs.Common.{rules}
use Rattle.session_pump.specs.Hosts.{facts_of}
use Rattle.session_pump.proofs.ListLemmas.{got_looked}
use Rattle.session_pump.proofs.PassingLemmas.{no_host, no_host_there}
use Rattle.session_pump.proofs.ServingLemmas.{lifted_still, side_stays, uncut_nowhere, uncut_so}
use Rattle.session_pump.proofs.serving.tell_side.Goals as goal

pub returns-in_default-clause-moves : goal.returns-in_default-clause-moves
returns-in_default-clause-moves g c line place is = side_stays _ place _ line _ _ is c.requires

pub returns-in_default-clause-uncut : goal.returns-in_default-clause-uncut
returns-in_default-clause-uncut g c = uncut_nowhere _ _ (no_host _ c.args.side.now c.in_default.is)

pub returns-in_default-get-clause-moves : goal.returns-in_default-get-clause-moves
returns-in_default-get-clause-moves g c line place is = side_stays _ place _ line _ _ is c.requires

pub returns-in_default-get-clause-uncut : goal.returns-in_default-get-clause-uncut
returns-in_default-get-clause-uncut g c = uncut_nowhere _ _ (no_host_there (facts_of g.E.Backend.told g.E.Backend.counts) _ c.args.side.now _ c.in-Some.is (search rules))

pub returns-clause-moves : goal.returns-clause-moves
returns-clause-moves g c line place is =
    lifted_still (facts_of g.E.Backend.told g.E.Backend.counts) _ _ place _ _ _ line _ _ c.in-Some-get.stand.now is c.in-Some.is
    (got_looked _ _ _ _ c.deref.ensures.value c.in-Some-get.ensures.lookup.0 c.in-Some-get.ensures.lookup.1)
    (c.tell_cut.ensures.moves line.kept)

pub returns-clause-uncut : goal.returns-clause-uncut
returns-clause-uncut g c = uncut_so (facts_of g.E.Backend.told g.E.Backend.counts) _ c.args.side.now _ _ c.in-Some-get.stand.now _ c.in-Some.is c.tell_cut.ensures.host
    (got_looked _ _ _ _ c.deref.ensures.value c.in-Some-get.ensures.lookup.0 c.in-Some-get.ensures.lookup.1)
    c.tell_cut.ensures.uncut
