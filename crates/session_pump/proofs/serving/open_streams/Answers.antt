use Rattle.std.proofs.Common.{◌≢◌, ◌∙◌, refl, rules}
use Rattle.std.proofs.lemmas.List.{length-set}
use Rattle.session_pump.specs.Sides.{line_facts, none}
use Rattle.session_pump.specs.declared.line.Stage.TheVariants as stages
use Rattle.session_pump.proofs.ListLemmas.{all_below, got_read, next_changed, none_below}
use Rattle.session_pump.proofs.PassingLemmas.{moves_on}
use Rattle.session_pump.proofs.TurnedLemmas.{still_held, turned_none}
use Rattle.session_pump.proofs.serving.open_streams.Goals as goal

pub loop-place-init : goal.loop-place-init
loop-place-init g c = record {
  held = c.requires;
  count = refl;
  others = λ other differs. refl;
  directory = refl;
  silences = refl;
  opened = none_below (λ side. side.stage ≢ stages.Unopened) _;
  moves = turned_none _ _ _ c.requires (λ k. none);
}

pub loop-place-preserved : goal.loop-place-preserved
loop-place-preserved g c =
    let there = got_read c.loop-place.line.sides.items c.loop-place.line.sides.items c.loop-place.place c.in-Some.side.now refl (search rules) (search rules) in
    record {
      held = still_held _ _ _ _ (c.in_ok-open_side.ensures.moves (line_facts c.loop-place.line) c.loop-place.place there);
      count = length-set _ _ _ ∙ c.loop-place.invariant.count;
      others = λ other differs. c.in_ok-open_side.ensures.others other differs ∙ c.loop-place.invariant.others other differs;
      directory = c.in_ok-open_side.ensures.directory ∙ c.loop-place.invariant.directory;
      silences = c.in_ok-open_side.ensures.silences ∙ c.loop-place.invariant.silences;
      opened = next_changed (λ side. side.stage ≢ stages.Unopened) _ _ c.in-Some.side.now _ there c.loop-place.invariant.opened c.in_ok-open_side.ensures.opened;
      moves = moves_on _ _ _ _ _ _ _ _ _ _ c.loop-place.invariant.moves (c.in_ok-open_side.ensures.moves (line_facts c.loop-place.line) c.loop-place.place there);
    }

pub returns-in_err-open_side-clause-moves : goal.returns-in_err-open_side-clause-moves
returns-in_err-open_side-clause-moves g c =
    moves_on _ _ _ _ _ _ _ _ _ _ c.loop-place.invariant.moves
    (c.in_err-open_side.ensures.moves (line_facts c.loop-place.line) c.loop-place.place (got_read c.loop-place.line.sides.items c.loop-place.line.sides.items c.loop-place.place c.in-Some.side.now refl (search rules) (search rules)))

pub returns-clause-opened : goal.returns-clause-opened
returns-clause-opened g c = all_below (λ side. side.stage ≢ stages.Unopened) _ _ (search rules) c.loop-place.invariant.opened
