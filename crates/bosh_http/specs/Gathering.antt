-- Bytes that are gathered before they are given.
use Rattle.std.specs.Prelude.{◌≡◌, ℕ, List, ◌++◌, Option, Result, MatchResult}
use Rattle.std.specs.Io.KnownBytes.{Appends}
use Rattle.bosh_ports.specs.Sink.{AppendsFront}

-- what was given, and then what is gathered now, is what was gathered before and then this part
pub record Gathered (old new : Option (List ℕ)) (before after part : List ℕ) : Type 0 where
  pub out : List ℕ
  pub gave : Appends old new out
  pub whole : before ++ part ≡ out ++ after

abbrev pub Gathers : {T E : Type 0} → Result T E → Option (List ℕ) → Option (List ℕ) → List ℕ → List ℕ → List ℕ → Type 0
Gathers result old new before after part = MatchResult result (λ _. Gathered old new before after part) (λ _. AppendsFront old new (before ++ part))
