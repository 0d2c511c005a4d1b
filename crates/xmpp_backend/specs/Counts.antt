-- What a back end counts.
use Rattle.std.specs.Prelude.{◌≡◌, ℕ, ◌+◌, ◌-◌, ◌^◌, ◌≤◌, nat_lt, if◌then◌else◌}
use Rattle.bosh_ports.specs.Faults.{HasRisen}
use Rattle.xmpp_backend.specs.declared.backend.Passed.{Passed}
use Rattle.xmpp_backend.specs.declared.backend.Passed.TheVariants as passed
use Rattle.xmpp_backend.specs.declared.backend.Polled.{Polled}
use Rattle.xmpp_backend.specs.declared.backend.Polled.TheVariants as polled

-- how often it failed, how often a poll found nothing, and how often one gave something
pub record Counts : Type 0 where
  pub faults : ℕ
  pub idle : ℕ
  pub answers : ℕ

-- one more, up to the end of the count's type
abbrev pub counted_on : ℕ → ℕ
counted_on count = if nat_lt count (2 ^ 64 - 1) then count + 1 else count

-- it failed: the count of faults rose, and no other changed
pub record Fails (old new : Counts) : Type 0 where
  pub risen : HasRisen old.faults new.faults
  pub never_falls : old.faults ≤ new.faults
  pub others : new ≡ record old { faults = new.faults }

-- a call that passes, opens or closes
abbrev pub CountsPassed : Counts → Counts → Passed → Type 0
CountsPassed old new passed.Done = new ≡ old
CountsPassed old new passed.Failed = Fails old new
CountsPassed old new passed.NoMemory = new ≡ old

-- a poll
abbrev pub CountsPolled : Counts → Counts → Polled → Type 0
CountsPolled old new (polled.Out wire text) = new ≡ record old { answers = counted_on old.answers }
CountsPolled old new (polled.Closed wire closing) = new ≡ record old { answers = counted_on old.answers }
CountsPolled old new polled.Nothing = new ≡ record old { idle = counted_on old.idle }
CountsPolled old new polled.Failed = Fails old new
CountsPolled old new polled.NoMemory = new ≡ old
