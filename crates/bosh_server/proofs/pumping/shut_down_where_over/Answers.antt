use Rattle.session_pump.specs.Rows.{no_call, one_more, shut_down}
use Rattle.bosh_server.proofs.pumping.shut_down_where_over.Goals as goal

pub returns-then-eq-clause-row : goal.returns-then-eq-clause-row
returns-then-eq-clause-row g c = no_call

pub returns-clause-row : goal.returns-clause-row
returns-clause-row g c = one_more no_call (shut_down c.shut_down.ensures.shuts_down)
