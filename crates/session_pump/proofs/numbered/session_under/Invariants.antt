use Rattle.std.specs.Prelude.{◌≡◌, ◌==◌, drop}
use Rattle.std.specs.List.{list_any}
use Rattle.session_pump.proofs.numbered.session_under.Given as goal

abbrev pub invariant-loop-session : goal.invariant-loop-session
invariant-loop-session l = list_any (λ session. session.number == l.number) l.live ≡ list_any (λ session. session.number == l.number) (drop l.session-index l.live)
