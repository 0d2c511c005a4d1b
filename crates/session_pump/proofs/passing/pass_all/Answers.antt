use Rattle.std.proofs.Common.{◌∙◌, refl, rules}
use Rattle.session_pump.specs.Sides.{none}
use Rattle.session_pump.proofs.PassingLemmas.{ends_early, ends_for_want, ends_whole, keeps_next, moves_on}
use Rattle.session_pump.proofs.TurnedLemmas.{turned_none, still_held}
use Rattle.session_pump.proofs.passing.pass_all.Goals as goal

pub loop-init : goal.loop-init
loop-init g c = record {
  next = tt;
  finite = tt;
  held = c.requires.held;
  opened = c.requires.opened;
  others = λ other differs. refl;
  directory = refl;
  silences = refl;
  moves = turned_none _ _ _ c.requires.held (λ k. none);
}

pub returns-in_err-hand_on-clause-passes : goal.returns-in_err-hand_on-clause-passes
returns-in_err-hand_on-clause-passes g c =
    ends_early _ _ _ _ _ _ _ _ c.from_residual.ensures.0 (moves_on _ _ _ _ _ _ _ _ _ _ c.loop.invariant.moves c.in_err-hand_on.ensures.moves)

pub returns-in_err-item-clause-passes : goal.returns-in_err-item-clause-passes
returns-in_err-item-clause-passes g c =
    ends_for_want _ _ _ _ _ _ _ _ _ _ c.from_residual-in_err-item.ensures.0
    (moves_on _ _ _ _ _ _ _ _ _ _ c.loop.invariant.moves c.in_ok-hand_on.ensures.moves) c.in_err-item.ensures.took

pub returns-in_default-clause-passes : goal.returns-in_default-clause-passes
returns-in_default-clause-passes g c =
    ends_whole _ _ _ _ _ _ _ _ _ c.in_default.not-Some c.in_ok-hand_on.ensures.none c.in_ok-hand_on.ensures.opened
    (moves_on _ _ _ _ _ _ _ _ _ _ c.loop.invariant.moves c.in_ok-hand_on.ensures.moves) c.in_ok-item.ensures.took

pub loop-preserved : goal.loop-preserved
loop-preserved g c = record {
  next = tt;
  finite = tt;
  held = still_held _ _ _ _ c.in_ok-item.ensures.took;
  opened = c.in_ok-hand_on.ensures.opened;
  others = λ other differs. c.in_ok-item.ensures.others other differs ∙ c.in_ok-hand_on.ensures.others other differs ∙ c.loop.invariant.others other differs;
  directory = search rules;
  silences = c.in_ok-hand_on.ensures.silences ∙ c.loop.invariant.silences;
  moves = keeps_next _ _ _ _ _ _ _ _ _ _ c.in-Some-2.is c.in_ok-hand_on.ensures.none
      (moves_on _ _ _ _ _ _ _ _ _ _ c.loop.invariant.moves c.in_ok-hand_on.ensures.moves)
      c.in_ok-item.ensures.took;
}

pub next_item-requires : goal.next_item-requires
next_item-requires g c = still_held _ _ _ _ c.in_ok-hand_on.ensures.moves
