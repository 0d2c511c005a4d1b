use Rattle.std.specs.Prelude.{◌≡◌, IsSome, map, take}
use Rattle.session_table.specs.Purses.{OthersStay, Turned, held}
use Rattle.session_pump.specs.Calling.{ClosesEach}
use Rattle.session_pump.proofs.turn.close_each.Given as goal

abbrev pub invariant-loop-side : goal.invariant-loop-side
invariant-loop-side g l = record {
  held : IsSome (held l.purse.sessions l.number);
  others : OthersStay l.number l.fn.purse.sessions l.purse.sessions;
  directory : l.purse.directory ≡ l.fn.purse.directory;
  silences : g.B.Bell.silences l.bell ≡ g.B.Bell.silences l.fn.bell;
  closes : Turned l.number l.fn.purse.sessions l.purse.sessions
      (λ old new. ClosesEach (g.C.Clock.moment l.clock) l.closing old (map (λ side. side.stream) (take l.side-index l.line.sides.items)) l.closed new);
}
