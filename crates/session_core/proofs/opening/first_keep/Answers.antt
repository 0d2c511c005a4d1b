use Rattle.session_core.proofs.opening.first_keep.Goals as goal

pub returns : goal.returns
returns c = c.put-fallen.ensures.after _ c.in_ok-keep.ensures tt
