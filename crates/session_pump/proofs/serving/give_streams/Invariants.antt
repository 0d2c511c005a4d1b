use Rattle.std.specs.Prelude.{◌≡◌, IsSome, length}
use Rattle.session_table.specs.Purses.{OthersStay, Turned, held}
use Rattle.session_pump.specs.Hosts.{hosts_of}
use Rattle.session_pump.specs.Sides.{AreOpened, TriesEach, served}
use Rattle.session_pump.proofs.serving.give_streams.Given as goal

abbrev pub invariant-loop-place : goal.invariant-loop-place
invariant-loop-place g l = record {
  held : IsSome (held l.purse.sessions l.number);
  count : length l.line.sides.items ≡ length l.fn.line.sides.items;
  others : OthersStay l.number l.fn.purse.sessions l.purse.sessions;
  directory : l.purse.directory ≡ l.fn.purse.directory;
  silences : g.B.Bell.silences l.bell ≡ g.B.Bell.silences l.fn.bell;
  opened : AreOpened l.fn.line.sides.items → AreOpened l.line.sides.items;
  tries : Turned l.number l.fn.purse.sessions l.purse.sessions (λ old new. TriesEach (g.C.Clock.moment l.clock)
      (served old l.fn.line (hosts_of g.E.Backend.told g.E.Backend.counts l.fn.hosts))
      l.place
      (served new l.line (hosts_of g.E.Backend.told g.E.Backend.counts l.hosts)));
}
