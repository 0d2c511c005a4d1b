use Rattle.std.proofs.Common.{rules}
use Rattle.session_pump.specs.Dues.{asked, not_held}
use Rattle.session_pump.proofs.DueLemmas.{cleared_else, noted_none, noted_so}
use Rattle.session_pump.proofs.LeavingLemmas.{due_so}
use Rattle.session_pump.proofs.pump.Pump.note.Goals as goal

pub returns-then-is_none-clause-noted : goal.returns-then-is_none-clause-noted
returns-then-is_none-clause-noted g c = noted_none _ c.args.self.now.purse.sessions _ _ (search rules) c.clear.ensures.found

pub returns-then-is_none-clause-others : goal.returns-then-is_none-clause-others
returns-then-is_none-clause-others g c = cleared_else _ _ _ c.clear.ensures.found

pub returns-then-is_none-clause-asked : goal.returns-then-is_none-clause-asked
returns-then-is_none-clause-asked g c = not_held (search rules)

pub returns-clause-noted : goal.returns-clause-noted
returns-clause-noted g c = noted_so _ _ _ _ _ _ (due_so _ _ _ _ c.state-state.ensures.looked) c.put_due.ensures.put

pub returns-clause-asked : goal.returns-clause-asked
returns-clause-asked g c = asked _ (due_so _ _ _ _ c.state-state.ensures.looked) c.state-state.ensures.others
