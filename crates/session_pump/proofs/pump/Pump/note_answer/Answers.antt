use Rattle.session_pump.specs.Turns.{noted}
use Rattle.session_pump.proofs.LeavingLemmas.{noted_not_so}
use Rattle.session_pump.proofs.pump.Pump.note_answer.Goals as goal

pub returns-in-Ok-clause-notes : goal.returns-in-Ok-clause-notes
returns-in-Ok-clause-notes g c = noted _ (record { this = c.in-Ok.ensures.put; others = c.in-Ok.ensures.others })

pub returns-in-Err-clause-notes : goal.returns-in-Err-clause-notes
returns-in-Err-clause-notes g c = noted_not_so _ _ _ _ _ c.in-Err.ensures.err
