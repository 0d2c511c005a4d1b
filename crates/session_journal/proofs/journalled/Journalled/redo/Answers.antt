use Rattle.std.proofs.Common.{refl, subst, ◌∙◌}
use Rattle.session_journal.specs.Redoing.{AsksFor}
use Rattle.session_journal.specs.Stored.{IsLegal}
use Rattle.session_journal.proofs.RedoneLemmas.{foreign_never}
use Rattle.session_journal.proofs.journalled.Journalled.redo.Goals as goal

pub returns-in-Nothing-clause-redoes : goal.returns-in-Nothing-clause-redoes
returns-in-Nothing-clause-redoes c = (
  refl,
  foreign_never c.args.self.now c.args.entry.now (subst IsLegal ((c.self.invariant).0 ∙ c.self.view_is) c.count-count.ensures.journal)
      (subst (AsksFor c.args.entry.now.call) c.in-Nothing.is c.in_ok-asked.ensures),
)
