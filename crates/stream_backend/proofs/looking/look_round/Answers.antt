use Rattle.std.proofs.Common.{arith}
use Rattle.stream_backend.proofs.LineLemmas.{still_round}
use Rattle.stream_backend.proofs.looking.look_round.Goals as goal

pub returns-in-None-look_from-clause-none : goal.returns-in-None-look_from-clause-none
returns-in-None-look_from-clause-none g c = still_round _ _ _ _ _ (omega arith) c.in-None.ensures.none c.in-None-look_from.ensures.none
