use Rattle.std.proofs.Common.{◌∙◌, refl, rules}
use Rattle.std.proofs.lemmas.List.{length-set}
use Rattle.session_pump.specs.Hosts.{hosts_of}
use Rattle.session_pump.specs.Sides.{IsCutAmong, line_facts, none}
use Rattle.session_pump.proofs.ListLemmas.{all_below, got_read, next_changed, none_below}
use Rattle.session_pump.proofs.MovesLemmas.{opened_there}
use Rattle.session_pump.proofs.PassingLemmas.{moves_on}
use Rattle.session_pump.proofs.ServingLemmas.{tells_all, tells_not}
use Rattle.session_pump.proofs.TurnedLemmas.{still_held, turned_none}
use Rattle.session_pump.proofs.serving.tell_streams.Goals as goal

pub loop-place-init : goal.loop-place-init
loop-place-init g c = record {
  held = c.requires;
  count = refl;
  others = λ other differs. refl;
  directory = refl;
  silences = refl;
  opened = λ opened. opened;
  uncut = none_below (λ side. IsCutAmong (hosts_of g.E.Backend.told g.E.Backend.counts c.args.hosts.now) side → ⊥) _;
  moves = turned_none _ _ _ c.requires (λ k. none);
}

pub loop-place-preserved : goal.loop-place-preserved
loop-place-preserved g c =
    let there = got_read c.loop-place.line.sides.items c.loop-place.line.sides.items c.loop-place.place c.in-Some.side.now refl (search rules) (search rules) in
    record {
      held = still_held _ _ _ _ (c.in_ok-tell_side.ensures.moves (line_facts c.loop-place.line) c.loop-place.place there);
      count = length-set _ _ _ ∙ c.loop-place.invariant.count;
      others = λ other differs. c.in_ok-tell_side.ensures.others other differs ∙ c.loop-place.invariant.others other differs;
      directory = c.in_ok-tell_side.ensures.directory ∙ c.loop-place.invariant.directory;
      silences = c.in_ok-tell_side.ensures.silences ∙ c.loop-place.invariant.silences;
      opened = λ opened. opened_there _ _ _ (c.loop-place.invariant.opened opened) (c.in_ok-tell_side.ensures.opened (c.loop-place.invariant.opened opened _ _ there));
      uncut = next_changed (λ side. IsCutAmong (hosts_of g.E.Backend.told g.E.Backend.counts c.args.hosts.now) side → ⊥) _ _ c.in-Some.side.now _ there
          c.loop-place.invariant.uncut c.in_ok-tell_side.ensures.uncut;
      moves = moves_on _ _ _ _ _ _ _ _ _ _ c.loop-place.invariant.moves (c.in_ok-tell_side.ensures.moves (line_facts c.loop-place.line) c.loop-place.place there);
    }

pub returns-in_err-tell_side-clause-tells : goal.returns-in_err-tell_side-clause-tells
returns-in_err-tell_side-clause-tells g c =
    tells_not _ _ _ _ _ _ _ _ c.from_residual.ensures.0
    (moves_on _ _ _ _ _ _ _ _ _ _ c.loop-place.invariant.moves
    (c.in_err-tell_side.ensures.moves (line_facts c.loop-place.line) c.loop-place.place (got_read c.loop-place.line.sides.items c.loop-place.line.sides.items c.loop-place.place c.in-Some.side.now refl (search rules) (search rules))))

pub returns-in_err-tell_side-clause-opened : goal.returns-in_err-tell_side-clause-opened
returns-in_err-tell_side-clause-opened g c opened =
    opened_there _ _ _ (c.loop-place.invariant.opened opened)
    (c.in_err-tell_side.ensures.opened (c.loop-place.invariant.opened opened _ _ (got_read c.loop-place.line.sides.items c.loop-place.line.sides.items c.loop-place.place c.in-Some.side.now refl (search rules) (search rules))))

pub returns-clause-tells : goal.returns-clause-tells
returns-clause-tells g c =
    tells_all _ _ _ _ _ _ _ (all_below (λ side. IsCutAmong (hosts_of g.E.Backend.told g.E.Backend.counts c.args.hosts.now) side → ⊥) _ _ (search rules) c.loop-place.invariant.uncut)
    c.loop-place.invariant.moves
