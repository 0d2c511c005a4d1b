use Rattle.session_pump.specs.Dues.{asked_none}
use Rattle.session_pump.proofs.DueLemmas.{asked_before, asked_so, noted_all_so}
use Rattle.session_pump.proofs.pump.Pump.note_all.Goals as goal

pub returns-clause-noted : goal.returns-clause-noted
returns-clause-noted g c = noted_all_so _ _ _ _ _ _ _ c.as_slice.ensures.value c.in_ok-numbers.ensures c.new.ensures c.note_for.ensures.noted c.note_for.ensures.others c.note_for.ensures.asked

pub returns-clause-asked : goal.returns-clause-asked
returns-clause-asked g c = asked_so _ _ _ _ _ c.as_slice.ensures.value c.in_ok-numbers.ensures c.note_for.ensures.asked

pub returns-in_err-numbers-clause-wanted : goal.returns-in_err-numbers-clause-wanted
returns-in_err-numbers-clause-wanted g c = asked_before _ _ _ _ asked_none

pub returns-clause-wanted : goal.returns-clause-wanted
returns-clause-wanted g c = c.note_for.ensures.wanted
