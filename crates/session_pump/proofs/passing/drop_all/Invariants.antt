use Rattle.std.specs.Prelude.{◌≡◌, IsSome}
use Rattle.session_table.specs.Purses.{OthersStay, Turned, held}
use Rattle.session_pump.specs.Turns.{Takes}
use Rattle.session_pump.proofs.passing.drop_all.Given as goal

abbrev pub invariant-loop : goal.invariant-loop
invariant-loop g l = record {
  next : (goal.iterator-loop g).can_next l.iterator';
  finite : (goal.iterator-loop g).is_finite l.iterator';
  held : IsSome (held l.purse.sessions l.number);
  takes : Turned l.number l.fn.purse.sessions l.purse.sessions Takes;
  others : OthersStay l.number l.fn.purse.sessions l.purse.sessions;
  directory : l.purse.directory ≡ l.fn.purse.directory;
}
