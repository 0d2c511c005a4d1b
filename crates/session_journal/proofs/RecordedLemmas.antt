-- What one entry more leaves of a list of entries.
use Rattle.std.proofs.Common.{◌≡◌, ℕ, ◌+◌, ◌≤◌, List, [], ◌∷◌, ◌++◌, Option, Some, None, length, ◌∙◌, ap, arith}
use Rattle.std.proofs.lemmas.List.{length-append}
use Rattle.parked_gate.specs.Histories.{Appends}
use Rattle.session_journal.specs.declared.entry.Entry.{Entry}
use Rattle.session_journal.specs.Entries.{host_of}

-- the host stays, and there is at most one more
pub kept : (log later : List Entry) (caller : ℕ) (made : Option Entry) (host : List ℕ) → host_of log ≡ Some host → Appends (λ e. e.caller) caller log made later
    → (host_of later ≡ Some host) × (length later ≤ length log + 1)
kept log later caller None host is same = (ap host_of same ∙ is, omega (arith, ap length same))
kept [] later caller (Some e) host is adds = absurd (cc)
kept (o ∷ es) later caller (Some e) host is adds = (ap host_of adds.0 ∙ is, omega (arith, ap length adds.0, length-append (o ∷ es) (e ∷ [])))
