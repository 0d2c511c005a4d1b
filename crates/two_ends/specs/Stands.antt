-- What the code keeps of a manager stands for the plain one.
use Rattle.std.specs.Prelude.{◌≡◌, List}
use Rattle.session_journal.specs.Stored.{IsJournalOf}
use Rattle.two_ends.specs.declared.manager.Manager.{Manager}
use Rattle.world_laws.specs.declared.told.Told.{Told}
use Rattle.world_laws.specs.Manager.{PlainManager, Turn}

-- its entries tell the journal
pub record IsManager (manager : Manager) (m : PlainManager) : Type 0 where
  pub journal : IsJournalOf manager.session m.journal
  pub parked : manager.parked.items ≡ m.parked

-- this is told of a call, and this is the manager after it
pub record IsTurn (told : List Told) (manager : Manager) (turn : Turn) : Type 0 where
  pub told_is : told ≡ turn.told
  pub manager_is : IsManager manager turn.after
