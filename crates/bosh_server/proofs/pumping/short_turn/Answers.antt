use Rattle.session_pump.specs.Rows.{one_more, turned_for}
use Rattle.bosh_server.proofs.PumpLemmas.{taken_row}
use Rattle.bosh_server.proofs.pumping.short_turn.Goals as goal

pub returns-in_err-take_due-clause-row : goal.returns-in_err-take_due-clause-row
returns-in_err-take_due-clause-row g c =
    let taken = c.take_due in
    taken_row g.E.Backend.told g.E.Backend.counts c.args.pump.now taken.new.self taken.ensures.purse taken.ensures.lines taken.ensures.hosts

pub returns-clause-row : goal.returns-clause-row
returns-clause-row g c =
    let taken = c.take_due in
    one_more (taken_row g.E.Backend.told g.E.Backend.counts c.args.pump.now taken.new.self taken.ensures.purse taken.ensures.lines taken.ensures.hosts)
    (turned_for c.turn_for.ensures.turns)
