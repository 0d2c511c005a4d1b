-- A bell that is silent by a list.
use Rattle.std.specs.Prelude.{ℕ, List, Contains}
use Rattle.bosh_ports.specs.Memory.{counted_up}

-- the numbers of the waits that are silent, and how many waits were made and were silent
pub record Listed : Type 0 where
  pub silent : List ℕ
  pub waits : ℕ
  pub silences : ℕ

-- the next wait is one of the silent ones
abbrev pub IsNextSilent : Listed → Type 0
IsNextSilent bell = Contains bell.silent (counted_up bell.waits)
