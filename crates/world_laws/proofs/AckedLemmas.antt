-- How far a session counts answers as acknowledged, by what its copies acknowledge.
use Rattle.std.proofs.Common.{◌≡◌, ℕ, suc, ◌<◌, ◌≤◌, Bool, true, false, List, [], ◌∷◌, ◌++◌, slice_get, refl, arith, subst}
use Rattle.std.specs.Prelude.{Option, None, Some, All, IfSome}
use Rattle.std.proofs.lemmas.List.Elements.{All-cons, All-head, All-nil, All-tail}
use Rattle.ack_report.specs.Report.{keep_on}
use Rattle.reply_keep.specs.PlainKeep.{PlainKeep}
use Rattle.session_core.specs.declared.copy.RequestCopy.{RequestCopy}
use Rattle.session_core.specs.Journal.{IsJournal, Journal, state_of}
use Rattle.session_core.specs.Kept.{keep_of}
use Rattle.session_core.specs.Machine.{as_processed, opened}
use Rattle.session_core.specs.Processed.{copies_of}
use Rattle.session_core.specs.State.{PlainSession}
use Rattle.session_laws.proofs.Grows.{steady-all}
use Rattle.session_laws.proofs.Lists.{copies_push}
use Rattle.session_laws.proofs.Moves.{Steady}

abbrev pub IsLow : ℕ → RequestCopy → Type 0
IsLow bound copy = IfSome copy.request.ack (λ ack. ack < bound)

pub all_push : {X : Type 0} (P : X → Type 0) (xs : List X) (x : X) → All P (xs ++ x ∷ []) → All P xs × P x
all_push P [] x all = (All-nil P, All-head P x [] all)
all_push P (first ∷ xs) x all =
    let rest = all_push P xs x (All-tail P first (xs ++ x ∷ []) all) in
    (All-cons P first xs (All-head P first (xs ++ x ∷ []) all) rest.0, rest.1)

pub all_of : {X : Type 0} (P : X → Type 0) (xs : List X) → ((k : ℕ) (x : X) → slice_get xs k ≡ Some x → P x) → All P xs
all_of P [] each = All-nil P
all_of P (x ∷ xs) each = All-cons P x xs (each 0 x refl) (all_of P xs (λ k y is. each (suc k) y is))

kept_low : (on : Bool) (plain : PlainKeep) (ack : Option ℕ) (bound : ℕ) → plain.acknowledged < bound → IfSome ack (λ ack. ack < bound) → (keep_on on plain ack).acknowledged < bound
kept_low false plain ack bound low is = low
kept_low true plain None bound low is = low
kept_low true plain (Some ack) bound low is = omega (arith, low, is)

-- where each copy acknowledges lower ids, so does the session
abbrev AcksBelow : ℕ → PlainSession → Type 0
AcksBelow bound s = All (IsLow bound) (copies_of s.processed) → s.acknowledged < bound

below_steady : (bound : ℕ) → Steady (AcksBelow bound)
below_steady bound = record {
  ends = λ t ending on p. p;
  aside = λ t tickets now last_arrival passed counted p. p;
  answers = λ t oldest later front is on reason taken p. p;
  processes = λ t copy on stands broken p all.
      let both = all_push (IsLow bound) (copies_of t.processed) copy (subst (All (IsLow bound)) (copies_push t.processed (as_processed t copy)) all) in
      kept_low t.reporting.on (keep_of t) copy.request.ack bound (p both.0) both.1;
  stands = λ t copy above none small p. p;
  strikes = λ t rid on is p. p;
  gives = λ t item p. p;
}

pub every_ack_low : (journal : Journal) → IsJournal journal → (bound : ℕ) → 1 ≤ bound → All (IsLow bound) (copies_of (state_of journal).processed) → (state_of journal).acknowledged < bound
every_ack_low journal made bound some =
    steady-all (AcksBelow bound) (below_steady bound) (opened journal.opening) journal.entries made.1 (λ all. omega (arith, some))
