use Rattle.std.proofs.Common.{ap, refl, sym}
use Rattle.parked_gate.specs.Passes.{known}
use Rattle.session_pump.proofs.TurnLemmas.{alone_of, on_line_of}
use Rattle.session_pump.proofs.TurnedLemmas.{turned_none}
use Rattle.session_pump.proofs.pump.Pump.tell_held.Goals as goal

pub returns-in_default-clause-tells : goal.returns-in_default-clause-tells
returns-in_default-clause-tells g c = alone_of _ _ _ _ _ _ _ _ _ _ refl c.get_mut.follows.holds-at-none (sym c.in_default.ensures.value) (turned_none _ _ _ c.requires (λ k. (refl, refl))) (λ other differs. refl)

pub returns-clause-tells : goal.returns-clause-tells
returns-clause-tells g c =
    on_line_of _ _ _ _ _ _ _ _ _ _ _ _ _ (ap known c.tell_streams.ensures.directory) (sym c.in-Some.ensures.value)
    (c.get_mut.follows.holds c.tell_streams.new.line) c.tell_streams.ensures.tells c.tell_streams.ensures.others
