use Rattle.session_pump.specs.Rows.{one_more, turned}
use Rattle.bosh_server.proofs.PumpLemmas.{rows}
use Rattle.bosh_server.proofs.pumping.whole_turn.Goals as goal

pub returns-clause-row : goal.returns-clause-row
returns-clause-row g c = rows (one_more c.shut_down_where_over-shut.ensures.row (turned c.turn-turned.ensures.turns)) c.note_all-noted.ensures.row
