use Rattle.std.proofs.Common.{rules}
use Rattle.session_pump.specs.Sides.{line_facts, none}
use Rattle.session_pump.proofs.PassingLemmas.{dropped_met, to_open, to_pass}
use Rattle.session_pump.proofs.TurnedLemmas.{turned_none}
use Rattle.session_pump.proofs.passing.hand_on.Goals as goal

pub returns-in_default-clause-moves : goal.returns-in_default-clause-moves
returns-in_default-clause-moves g c = turned_none _ _ _ c.requires.held (λ k. none)

pub pass_kept-requires-clause-passes : goal.pass_kept-requires-clause-passes
pass_kept-requires-clause-passes g c = to_pass (line_facts c.args.line.now) _ _ _ c.in-Some.is (search rules) c.stream_of.ensures c.place_of-place.ensures.of c.place_of-place.ensures.none

pub returns-then-not-is_opening-clause-moves : goal.returns-then-not-is_opening-clause-moves
returns-then-not-is_opening-clause-moves g c = turned_none _ _ _ c.requires.held (λ k. c.pass_kept.ensures.moves (g.C.Clock.moment c.args.clock.now) k)

pub returns-in-Some-place-clause-moves : goal.returns-in-Some-place-clause-moves
returns-in-Some-place-clause-moves g c =
    turned_none _ _ _ c.requires.held (λ k. dropped_met k _ _ _ _ _ _ c.in-Some.is (search rules) c.stream_of.ensures c.in-Some-place.is c.place_of-place.ensures.of)

pub open_kept-requires-clause-opens : goal.open_kept-requires-clause-opens
open_kept-requires-clause-opens g c = to_open (line_facts c.args.line.now) _ _ _ c.in-Some.is (search rules) c.stream_of.ensures c.in-None.is c.place_of-place.ensures.none
