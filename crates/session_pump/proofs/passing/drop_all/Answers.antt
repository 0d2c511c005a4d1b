use Rattle.std.proofs.Common.{◌∙◌, refl, rules}
use Rattle.session_pump.specs.Turns.{taken_none}
use Rattle.session_pump.proofs.TurnLemmas.{takes_next, takes_not, takes_whole}
use Rattle.session_pump.proofs.TurnedLemmas.{still_held, turned_none}
use Rattle.session_pump.proofs.passing.drop_all.Goals as goal

pub loop-init : goal.loop-init
loop-init g c = record {
  next = tt;
  finite = tt;
  held = c.requires;
  takes = turned_none _ _ _ c.requires (λ k. taken_none);
  others = λ other differs. refl;
  directory = refl;
}

pub returns-in_err-item-clause-takes : goal.returns-in_err-item-clause-takes
returns-in_err-item-clause-takes g c = takes_not _ _ _ _ _ _ c.from_residual.ensures.0 c.loop.invariant.takes c.in_err-item.ensures.took

pub returns-in_default-clause-takes : goal.returns-in_default-clause-takes
returns-in_default-clause-takes g c = takes_whole _ _ _ _ _ c.in_default.not-Some c.loop.invariant.takes c.in_ok-item.ensures.took

pub loop-preserved : goal.loop-preserved
loop-preserved g c = record {
  next = tt;
  finite = tt;
  held = still_held _ _ _ _ c.in_ok-item.ensures.took;
  takes = takes_next _ _ _ _ _ _ c.in-Some-2.is c.loop.invariant.takes c.in_ok-item.ensures.took;
  others = λ other differs. c.in_ok-item.ensures.others other differs ∙ c.loop.invariant.others other differs;
  directory = search rules;
}
