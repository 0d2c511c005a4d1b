use Rattle.std.proofs.Common.{◌∙◌, ap}
use Rattle.script_text.proofs.ManagerLemmas.{places, place_same}
use Rattle.script_text.proofs.manager.Manager.place_of.Goals as goal

pub returns-clause-place : goal.returns-clause-place
returns-clause-place c = λ m is.
    c.place_in.ensures.place ∙ ap (places c.args.number) c.as_slice.ensures.value ∙ place_same c.args.number _ _ is.live
