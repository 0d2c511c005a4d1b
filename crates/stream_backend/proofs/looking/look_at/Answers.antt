use Rattle.stream_backend.proofs.LineLemmas.{tells_want}
use Rattle.stream_backend.proofs.looking.look_at.Goals as goal

pub returns-in-Err : goal.returns-in-Err
returns-in-Err g c = tells_want _ _ c.in-Err.ensures.err
