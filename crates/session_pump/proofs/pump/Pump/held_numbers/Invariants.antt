use Rattle.std.proofs.Common.{◌≡◌, map}
use Rattle.session_pump.proofs.pump.Pump.held_numbers.Given as goal

abbrev pub invariant-loop-number : goal.invariant-loop-number
invariant-loop-number g l = l.numbers.items ≡ map (λ e. e.0.now) l.yielded
