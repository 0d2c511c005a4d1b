use Rattle.stream_backend.proofs.LineLemmas.{still_more}
use Rattle.stream_backend.proofs.looking.look_from.Goals as goal

pub loop-at-preserved : goal.loop-at-preserved
loop-at-preserved g c = still_more _ _ _ _ _ c.loop-at.auto.at c.loop-at.invariant c.in-None.ensures.none
