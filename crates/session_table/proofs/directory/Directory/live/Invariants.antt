use Rattle.std.proofs.Common.{◌≡◌, map}
use Rattle.session_table.proofs.directory.Directory.live.Given as goal

abbrev pub invariant-loop-number : goal.invariant-loop-number
invariant-loop-number l = l.live.items ≡ map (λ e. record { sid = e.1.now.sid; number = e.0.now }) l.yielded
