use Rattle.std.proofs.Common.{subst}
use Rattle.session_table.specs.History.{IsLegal}
use Rattle.session_table.proofs.directory.Directory.count.Goals as goal

pub returns-clause-legal : goal.returns-clause-legal
returns-clause-legal c = subst IsLegal c.self.view_is (c.self.invariant).legal
