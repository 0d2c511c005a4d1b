use Rattle.std.proofs.Common.{rules, ◌∙◌, ap}
use Rattle.std.specs.Prelude.{filter}
use Rattle.std.proofs.lemmas.Fn.{filter_same}
use Rattle.script_text.specs.Script.{is_told}
use Rattle.script_text.proofs.arrivals.effect_of.Goals as goal

pub returns : goal.returns
returns c = λ change is. record {
  lines = filter_same _ _ _ (λ x b f' k. search rules) _ _ c.retain.ensures.filtered ∙ ap (filter is_told) is.lines;
  next = is.manager;
  over = is.over;
}
