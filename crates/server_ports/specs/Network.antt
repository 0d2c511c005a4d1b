-- The answers of a network, by cases.
use Rattle.std.specs.Prelude.{◌≡◌}
use Rattle.server_ports.specs.Counts.{Counts, HasFailed, added}
use Rattle.server_ports.specs.declared.network.Opened.{Opened}
use Rattle.server_ports.specs.declared.network.Opened.TheVariants as opened
use Rattle.server_ports.specs.declared.network.Shared.{Shared}
use Rattle.server_ports.specs.declared.network.Shared.TheVariants as shared
use Rattle.server_ports.specs.declared.network.Accepted.{Accepted}
use Rattle.server_ports.specs.declared.network.Accepted.TheVariants as accepted
use Rattle.server_ports.specs.declared.network.Dialled.{Dialled}
use Rattle.server_ports.specs.declared.network.Dialled.TheVariants as dialled

-- listening counts nothing but its fault
abbrev pub ListenCounts : Counts → Counts → Opened → Type 0
ListenCounts old new opened.Ready = new ≡ old
ListenCounts old new opened.Failed = HasFailed old new

module _ {N : Type 0} where
  abbrev pub MatchShared : Shared N → (N → Type 0) → Type 0 → Type 0
  MatchShared (shared.Net net) on_net on_failed = on_net net
  MatchShared shared.Failed on_net on_failed = on_failed

module _ {L : Type 0} where
  abbrev pub MatchAccepted : Accepted L → (L → Type 0) → Type 0 → Type 0 → Type 0
  MatchAccepted (accepted.Link link) on_link on_stopped on_failed = on_link link
  MatchAccepted accepted.Stopped on_link on_stopped on_failed = on_stopped
  MatchAccepted accepted.Failed on_link on_stopped on_failed = on_failed

  -- the answer is counted, and nothing else
  abbrev pub AcceptCounts : Counts → Counts → Accepted L → Type 0
  AcceptCounts old new answer = MatchAccepted answer (λ _. new ≡ record old { accepted = added old.accepted 1 }) (new ≡ record old { stops = added old.stops 1 }) (HasFailed old new)

  abbrev pub MatchDialled : Dialled L → (L → Type 0) → Type 0 → Type 0
  MatchDialled (dialled.Link link) on_link on_failed = on_link link
  MatchDialled dialled.Failed on_link on_failed = on_failed

  -- the answer is counted, and nothing else
  abbrev pub DialCounts : Counts → Counts → Dialled L → Type 0
  DialCounts old new answer = MatchDialled answer (λ _. new ≡ record old { dialled = added old.dialled 1 }) (HasFailed old new)
