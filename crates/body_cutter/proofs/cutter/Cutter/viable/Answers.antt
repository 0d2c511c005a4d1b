use Rattle.std.proofs.Common.{◌∙◌, sym}
use Rattle.body_cutter.specs.declared.place.Kind.TheVariants as kinds
use Rattle.body_cutter.specs.Feeding.{StandsFor}
use Rattle.body_cutter.proofs.CompletionViable.{body_viable}
use Rattle.body_cutter.proofs.cutter.Cutter.viable.Goals as goal

pub returns : goal.returns
unfolding StandsFor
returns c = λ text f.
    let e = c.is_alive.ensures kinds.Body text f in
    let v = body_viable text in
    (λ t. v.1 (sym e ∙ t), λ w. e ∙ v.0 w)
