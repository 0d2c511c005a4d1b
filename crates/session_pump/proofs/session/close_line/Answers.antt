use Rattle.std.proofs.Common.{◌∙◌, refl, rules}
use Rattle.std.proofs.lemmas.List.{length-set}
use Rattle.session_pump.specs.Sides.{line_facts}
use Rattle.session_pump.specs.Turns.{closed_none, closed_one}
use Rattle.session_pump.proofs.ListLemmas.{got_read}
use Rattle.session_pump.proofs.TurnLemmas.{wires_closed, wires_not}
use Rattle.session_pump.proofs.session.close_line.Goals as goal

pub loop-place-init : goal.loop-place-init
loop-place-init g c = record { count = refl; closes = λ known. closed_none }

pub loop-place-preserved : goal.loop-place-preserved
loop-place-preserved g c = record {
  count = length-set _ _ _ ∙ c.loop-place.invariant.count;
  closes = λ known. closed_one _ (c.loop-place.invariant.closes known)
      (c.in_ok-close_side.ensures.closes (line_facts c.loop-place.line) c.loop-place.place known (got_read c.loop-place.line.sides.items c.loop-place.line.sides.items c.loop-place.place c.in-Some.side.now refl (search rules) (search rules)));
}

pub returns-in_err-close_side : goal.returns-in_err-close_side
returns-in_err-close_side g c = record {
  closes = λ known.
      wires_not _ _ _ _ c.in_err-close_side.field-0.0 _ c.from_residual.ensures.0 (c.loop-place.invariant.closes known)
      (c.in_err-close_side.ensures.closes (line_facts c.loop-place.line) c.loop-place.place known (got_read c.loop-place.line.sides.items c.loop-place.line.sides.items c.loop-place.place c.in-Some.side.now refl (search rules) (search rules)));
}

pub returns : goal.returns
returns g c = record { closes = λ known. wires_closed _ _ _ (search rules) (c.loop-place.invariant.closes known) }
