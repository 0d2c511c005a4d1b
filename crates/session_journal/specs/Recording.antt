-- A session beside entries that only clauses read.
use Rattle.std.specs.Prelude.{ℕ, List, map}
use Rattle.session_journal.specs.declared.entry.Entry.{Entry}

-- the entries, and how many tickets are out, each of which may make one more
pub record Recording : Type 0 where
  pub log : List Entry
  pub out : ℕ

-- the entries of a list of pairs whose second part says nothing
abbrev pub entries_of : {E U : Type 0} → List (E × U) → List E
entries_of made = map (λ pair. pair.0) made
