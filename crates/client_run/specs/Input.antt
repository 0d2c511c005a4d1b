-- The first bad line of an input, and an input that was put whole.
use Rattle.std.specs.Prelude.{◌≡◌, ◌⊎◌, ℕ, ◌+◌, ◌≤◌, true, false, List, ◌∷◌, ◌++◌, length, Option, IfSome}
use Rattle.std.specs.List.{list_all}
use Rattle.bosh_types.specs.Limits.{most_lines}
use Rattle.body_cutter.specs.Cutting.{is_stanza}
use Rattle.bosh_client.specs.Machine.{is_full, is_over}
use Rattle.line_reader.specs.Lines.{lines_of}
use Rattle.parked_gate.specs.Histories.{StartsWith}
use Rattle.parked_gate.specs.Passes.{Known}
use Rattle.client_run.specs.declared.entry.Entry.{Entry}
use Rattle.client_run.specs.Adding.{Adds, stanzas_in}
use Rattle.client_run.specs.History.{After}

-- this is the number of the first line that is no stanza, or of the first that is one too many
pub record IsFirstBad (lines : List (List ℕ)) (n : ℕ) : Type 0 where
  pub front : List (List ℕ)
  pub bad : List ℕ
  pub rest : List (List ℕ)
  pub is : lines ≡ front ++ bad ∷ rest
  pub place : n ≡ length front + 1
  pub stanzas : list_all is_stanza front ≡ true
  pub few : length front ≤ most_lines
  pub why : (is_stanza bad ≡ false) ⊎ (n ≡ most_lines + 1)

-- all lines of the input were put, and there are not too many, so that none is bad
abbrev pub PutsAll : Option (List ℕ) → Known Entry → Known Entry → Type 0
PutsAll input old new = Adds old new (λ added. IfSome input (λ bytes. (lines_of bytes ≡ stanzas_in added) × (list_all is_stanza (lines_of bytes) ≡ true) × (length (lines_of bytes) ≤ most_lines)))

-- the client takes no more: it ended, or a terminate was queued
abbrev pub TakesNoMore : Known Entry → Type 0
TakesNoMore known = After known.seen (λ c. is_over c ≡ true)

-- at some time meanwhile its queue was full
pub record WasFull (first last : List Entry) : Type 0 where
  pub log : List Entry
  pub since : StartsWith log first
  pub until : StartsWith last log
  pub full : After log (λ c. is_full c ≡ true)
