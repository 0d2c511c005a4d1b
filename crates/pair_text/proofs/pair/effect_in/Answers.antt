use Rattle.std.proofs.Common.{◌≡◌, ◌∙◌, ap, subst, sym}
use Rattle.pair_text.specs.Line.{pair_line_of}
use Rattle.pair_text.specs.Said.{IsWellSaid}
use Rattle.pair_text.specs.Script.{step_by}
use Rattle.pair_text.specs.Stands.{Does}
use Rattle.pair_text.proofs.LoadSteps.{ok_map}
use Rattle.pair_text.proofs.SaidLemmas.{pair_lines_well}
use Rattle.pair_text.proofs.pair.effect_in.Goals as goal

pub effect_by-requires : goal.effect_by-requires
effect_by-requires c = subst IsWellSaid (sym c.in_ok-said.ensures ∙ c.in-Some.is) (pair_lines_well c.as_slice.result.now)

pub returns-in-Some : goal.returns-in-Some
returns-in-Some c = ok_map c.effect_by.result _ _
    (λ effect does plain is. subst (λ said. Does effect (step_by plain c.args.n said)) (sym c.in-Some.is ∙ c.in_ok-said.ensures ∙ ap pair_line_of c.as_slice.ensures) (does plain is)) c.effect_by.ensures

pub returns-in-None : goal.returns-in-None
returns-in-None c = ok_map c.bad.result _ _
    (λ effect does plain is. subst (λ said. Does effect (step_by plain c.args.n said)) (sym c.in-None.is ∙ c.in_ok-said.ensures ∙ ap pair_line_of c.as_slice.ensures) does) c.bad.ensures
