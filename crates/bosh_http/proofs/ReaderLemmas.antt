-- The reader of all kinds of messages.
use Rattle.std.proofs.Common.{◌≡◌, ℕ, List, [], ◌++◌, take, sym, subst}
use Rattle.std.proofs.lemmas.List.{take-append-le}
use Rattle.bosh_http.specs.Reader.{StandsAt}
use Rattle.bosh_http.specs.Scanning.{Scans}
use Rattle.bosh_http.specs.declared.reader.Stage.{Stage}
use Rattle.bosh_http.specs.declared.reader.Stage.TheVariants.{Scanning, Found, Inside}
use Rattle.bosh_http.specs.declared.scan.Scan.{Scan}
use Rattle.bosh_http.proofs.ScanLemmas.{scans_more}

-- what is known of bytes stays known of more
pub stands_more : {S : Type 0} (Reads : List ℕ → ℕ → ℕ → S → Type 0) (Lacks : List ℕ → Type 0) (stage : Stage S) (bytes more : List ℕ)
    → ((start content : ℕ) (said : S) → Reads bytes start content said → Reads (bytes ++ more) start content said) → StandsAt Reads Lacks stage bytes → StandsAt Reads Lacks stage (bytes ++ more)
stands_more Reads Lacks (Scanning scan) bytes more reads_more (scans, lacks) =
    (scans_more scan.seen scan.place bytes more scans, subst Lacks (sym (take-append-le scan.seen bytes more scans.within)) lacks)
stands_more Reads Lacks (Found head) bytes more reads_more reads = reads_more head.start head.content head.said reads
stands_more Reads Lacks Inside bytes more reads_more stands = tt

-- a scan that went over nothing
pub stands_anew : (Lacks : List ℕ → Type 0) (scan : Scan) (bytes : List ℕ) → Scans scan.seen scan.place bytes → scan.seen ≡ 0 → Lacks [] → Scans scan.seen scan.place bytes × Lacks (take scan.seen bytes)
stands_anew Lacks scan bytes scans none lacks = (scans, subst (λ seen. Lacks (take seen bytes)) (sym none) lacks)
