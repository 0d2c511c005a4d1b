use Rattle.std.proofs.Common.{◌∙◌, refl, rules, sym}
use Rattle.std.proofs.lemmas.List.{length-set}
use Rattle.session_pump.specs.Sides.{line_facts}
use Rattle.session_pump.proofs.ListLemmas.{got_read}
use Rattle.session_pump.proofs.MovesLemmas.{opened_there}
use Rattle.session_pump.proofs.ServingLemmas.{tries_all, tries_next, tries_none, tries_not}
use Rattle.session_pump.proofs.TurnedLemmas.{still_held}
use Rattle.session_pump.proofs.serving.give_streams.Goals as goal

pub loop-place-init : goal.loop-place-init
loop-place-init g c = record {
  held = c.requires;
  count = refl;
  others = λ other differs. refl;
  directory = refl;
  silences = refl;
  opened = λ opened. opened;
  tries = tries_none _ _ _ _ c.requires;
}

pub loop-place-preserved : goal.loop-place-preserved
loop-place-preserved g c =
    let there = got_read c.loop-place.line.sides.items c.loop-place.line.sides.items c.loop-place.place c.in-Some.side.now refl (search rules) (search rules) in
    record {
      held = still_held _ _ _ _ (c.in_ok-give_side.ensures.tries (line_facts c.loop-place.line) c.loop-place.place there);
      count = length-set _ _ _ ∙ c.loop-place.invariant.count;
      others = λ other differs. c.in_ok-give_side.ensures.others other differs ∙ c.loop-place.invariant.others other differs;
      directory = c.in_ok-give_side.ensures.directory ∙ c.loop-place.invariant.directory;
      silences = c.in_ok-give_side.ensures.silences ∙ c.loop-place.invariant.silences;
      opened = λ opened. opened_there _ _ _ (c.loop-place.invariant.opened opened)
          (λ is. c.loop-place.invariant.opened opened _ _ there (sym c.in_ok-give_side.ensures.stage ∙ is));
      tries = tries_next _ _ _ _ _ _ _ _ _ _ _ c.loop-place.invariant.tries (c.in_ok-give_side.ensures.tries (line_facts c.loop-place.line) c.loop-place.place there);
    }

pub returns-in_err-give_side-clause-tries : goal.returns-in_err-give_side-clause-tries
returns-in_err-give_side-clause-tries g c =
    tries_not _ _ _ _ _ _ _ _ _ _ _ c.in_err-give_side.field-0.0 _ c.from_residual.ensures.0 c.loop-place.invariant.tries
    (c.in_err-give_side.ensures.tries (line_facts c.loop-place.line) c.loop-place.place (got_read c.loop-place.line.sides.items c.loop-place.line.sides.items c.loop-place.place c.in-Some.side.now refl (search rules) (search rules)))

pub returns-in_err-give_side-clause-opened : goal.returns-in_err-give_side-clause-opened
returns-in_err-give_side-clause-opened g c opened =
    opened_there _ _ _ (c.loop-place.invariant.opened opened)
    (λ is. c.loop-place.invariant.opened opened _ _ (got_read c.loop-place.line.sides.items c.loop-place.line.sides.items c.loop-place.place c.in-Some.side.now refl (search rules) (search rules)) (sym c.in_err-give_side.ensures.stage ∙ is))

pub returns-clause-tries : goal.returns-clause-tries
returns-clause-tries g c = tries_all _ _ _ _ _ _ _ _ (search rules) c.loop-place.invariant.tries
