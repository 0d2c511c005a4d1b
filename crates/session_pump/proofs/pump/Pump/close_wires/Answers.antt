use Rattle.std.proofs.Common.{refl, sym}
use Rattle.session_pump.proofs.TurnLemmas.{alone_of, on_line_of}
use Rattle.session_pump.proofs.TurnedLemmas.{turned_none}
use Rattle.session_pump.proofs.pump.Pump.close_wires.Goals as goal

pub returns-in_default-clause-closes : goal.returns-in_default-clause-closes
returns-in_default-clause-closes g c = alone_of _ _ _ _ _ _ _ _ _ _ refl c.get_mut.follows.holds-at-none (sym c.in_default.ensures.value) (turned_none _ _ _ c.requires (λ k. (refl, refl))) (λ other differs. refl)

pub returns-clause-closes : goal.returns-clause-closes
returns-clause-closes g c =
    on_line_of _ _ _ _ _ _ _ _ _ _ _ _ _ refl (sym c.in-Some.ensures.value)
    (c.get_mut.follows.holds c.close_line.new.line) (turned_none _ _ _ c.requires (λ k. c.close_line.ensures.closes k)) (λ other differs. refl)
