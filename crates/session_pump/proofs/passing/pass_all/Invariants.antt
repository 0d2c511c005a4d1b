use Rattle.std.specs.Prelude.{◌≡◌, IsSome}
use Rattle.session_table.specs.Purses.{OthersStay, Turned, held}
use Rattle.session_pump.specs.Hosts.{hosts_of}
use Rattle.session_pump.specs.Sides.{AreOpened, Moves, served}
use Rattle.session_pump.proofs.passing.pass_all.Given as goal

abbrev pub invariant-loop : goal.invariant-loop
invariant-loop g l = record {
  next : (goal.iterator-loop g).can_next l.iterator';
  finite : (goal.iterator-loop g).is_finite l.iterator';
  held : IsSome (held l.purse.sessions l.number);
  opened : AreOpened l.line.sides.items;
  others : OthersStay l.number l.fn.purse.sessions l.purse.sessions;
  directory : l.purse.directory ≡ l.fn.purse.directory;
  silences : g.B.Bell.silences l.bell ≡ g.B.Bell.silences l.fn.bell;
  moves : Turned l.number l.fn.purse.sessions l.purse.sessions (λ old new. Moves (g.C.Clock.moment l.clock)
      (served old l.fn.line (hosts_of g.E.Backend.told g.E.Backend.counts l.fn.hosts))
      (served new l.line (hosts_of g.E.Backend.told g.E.Backend.counts l.hosts)));
}
