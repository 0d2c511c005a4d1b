use Rattle.std.proofs.Common.{inl, inr, rules}
use Rattle.session_pump.specs.Hosts.{facts_of}
use Rattle.session_pump.proofs.LeavingLemmas.{open_so}
use Rattle.session_pump.proofs.ListLemmas.{got_looked}
use Rattle.session_pump.proofs.session.rests.Goals as goal

pub returns-then-is_lost : goal.returns-then-is_lost
returns-then-is_lost g c is = record { stage = inr (c.is_lost.ensures c.if-is_lost.true); owed = search rules }

pub returns : goal.returns
returns g c is = record {
  stage = inl (open_so (facts_of g.E.Backend.told g.E.Backend.counts) _ _ _ c.in-Some-get.stand.now c.in-Some.is
      (got_looked _ _ _ _ c.deref.ensures.value c.in-Some-get.ensures.lookup.0 c.in-Some-get.ensures.lookup.1) (c.is_open_on.ensures.open is));
  owed = search rules;
}
