use Rattle.stream_backend.proofs.LineLemmas.{tells_busy}
use Rattle.stream_backend.proofs.looking.settle.Goals as goal

pub returns-in-Busy : goal.returns-in-Busy
returns-in-Busy g c = λ start f. tells_busy start _ _ c.in-Busy.is f
