use Rattle.bosh_server.proofs.PumpLemmas.{asked_row}
use Rattle.bosh_server.proofs.pumping.note_given.Goals as goal

pub returns-in-Ok-clause-row : goal.returns-in-Ok-clause-row
returns-in-Ok-clause-row g c = let made = c.note_given in asked_row g.E.Backend.told g.E.Backend.counts c.args.pump.now made.new.self _ made.ensures.directory made.ensures.lines made.ensures.hosts c.in-Ok.ensures.asked

pub returns-in-Err-clause-row : goal.returns-in-Err-clause-row
returns-in-Err-clause-row g c = let made = c.note_given in asked_row g.E.Backend.told g.E.Backend.counts c.args.pump.now made.new.self _ made.ensures.directory made.ensures.lines made.ensures.hosts c.in-Err.ensures.wanted.1
