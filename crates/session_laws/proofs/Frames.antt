-- What answering, time and processing leave as it was.
use Rattle.std.proofs.Common.{◌≡◌, ℕ, List, Option, Some, None, refl, ap, max}
use Rattle.bosh_types.specs.declared.ending.Ending.{Ending}
use Rattle.bosh_types.specs.declared.ending.Ending.TheVariants as endings
use Rattle.session_core.specs.Answers.{with_answer, settled}
use Rattle.session_core.specs.Gap.{strike, struck}
use Rattle.session_core.specs.Machine.{with_copy, advanced}
use Rattle.session_core.specs.declared.outward.Front.TheVariants.{OfClosing}
use Rattle.session_core.specs.Copy.{id_of}
use Rattle.session_core.specs.Processed.{Processed}
use Rattle.session_core.specs.State.{PlainSession, Answered, Issued, Placing}
use Rattle.session_core.specs.Time.{time_applied, quiet_of}
use Rattle.session_laws.proofs.Moves.{settled-by, struck-by, advanced-by, time_applied-by}

-- it is the earlier session but for what was struck, its answers, the due report, tickets, the moment and its ending
abbrev pub InTime : PlainSession → PlainSession → Type 0
InTime s t = t ≡ record s { placings = t.placings; answered = t.answered; reporting = record s.reporting { due = t.reporting.due }; tickets = t.tickets; now = t.now; ending = t.ending }

-- but for its answers, the due report and its ending
abbrev pub IsAnswered : PlainSession → PlainSession → Type 0
IsAnswered s t = t ≡ record s { answered = t.answered; reporting = record s.reporting { due = t.reporting.due }; ending = t.ending }

-- but for what was processed, and what that changes
abbrev pub IsProcessed : PlainSession → PlainSession → Type 0
IsProcessed s t = t ≡ record s { processed = t.processed; key = t.key; period = t.period; acknowledged = t.acknowledged; reporting = record s.reporting { due = t.reporting.due }; ending = t.ending }

-- some fields are given anew in both
module _ (s t : PlainSession) where
  answered_anew : (answered : List Answered) (ending : Option Ending) → t ≡ s → record t { answered = answered; reporting = record t.reporting { due = None }; ending = ending }
      ≡ record s { answered = answered; reporting = record s.reporting { due = None }; ending = ending }
  answered_anew answered ending same = ap (λ (u : PlainSession). record u { answered = answered; reporting = record u.reporting { due = None }; ending = ending }) same

  moved_anew : (now : ℕ) → t ≡ s → record t { now = now } ≡ record s { now = now }
  moved_anew now same = ap (λ (u : PlainSession). record u { now = now }) same

  struck_anew : (placings : List Placing) (tickets : List Issued) → t ≡ s → record t { placings = placings; tickets = tickets } ≡ record s { placings = placings; tickets = tickets }
  struck_anew placings tickets same = ap (λ (u : PlainSession). record u { placings = placings; tickets = tickets }) same

  ended_anew : (ending : Option Ending) → t ≡ s → record t { ending = ending } ≡ record s { ending = ending }
  ended_anew ending same = ap (λ (u : PlainSession). record u { ending = ending }) same

  processed_anew : (processed : List Processed) (key : Option (List ℕ)) (period acknowledged : ℕ) (due : Option (ℕ × ℕ)) (ending : Option Ending) → t ≡ s
      → record t { processed = processed; key = key; period = period; acknowledged = acknowledged; reporting = record t.reporting { due = due }; ending = ending }
      ≡ record s { processed = processed; key = key; period = period; acknowledged = acknowledged; reporting = record s.reporting { due = due }; ending = ending }
  processed_anew processed key period acknowledged due ending same =
      ap (λ (u : PlainSession). record u { processed = processed; key = key; period = period; acknowledged = acknowledged; reporting = record u.reporting { due = due }; ending = ending }) same

-- the forms that these fields have after a step
abbrev in_time : PlainSession → PlainSession → PlainSession
in_time s t = record s { placings = t.placings; answered = t.answered; reporting = record s.reporting { due = t.reporting.due }; tickets = t.tickets; now = t.now; ending = t.ending }

abbrev is_answered : PlainSession → PlainSession → PlainSession
is_answered s t = record s { answered = t.answered; reporting = record s.reporting { due = t.reporting.due }; ending = t.ending }

abbrev is_processed : PlainSession → PlainSession → PlainSession
is_processed s t = record s { processed = t.processed; key = t.key; period = t.period; acknowledged = t.acknowledged; reporting = record s.reporting { due = t.reporting.due }; ending = t.ending }

pub settled_leaves : (s : PlainSession) → IsAnswered s (settled s)
settled_leaves s = settled-by (IsAnswered s) (record {
  gives = λ t oldest later front is on reason due other same. answered_anew (is_answered s t) t (with_answer t oldest front).answered t.ending same;
  closes = λ t oldest later stream closing is on reason due last same.
      answered_anew (is_answered s t) t (with_answer t oldest (OfClosing stream closing)).answered (Some (endings.Closed closing (id_of oldest.copy))) same;
}) s refl

pub time_leaves : (s : PlainSession) (now : ℕ) → InTime s (time_applied s now)
time_leaves s now = time_applied-by (InTime s) (record {
  moves = λ t later same. moved_anew (in_time s t) t (max t.now later) same;
  strikes = λ t rid on holds is same. struck_anew (in_time s t) t (strike t rid).placings (strike t rid).tickets same;
  silences = λ t on silent same. ended_anew (in_time s t) t (Some (endings.Silent (quiet_of t) t.now)) same;
}) (record {
  gives = λ t oldest later front is on reason due other same. answered_anew (in_time s t) t (with_answer t oldest front).answered t.ending same;
  closes = λ t oldest later stream closing is on reason due last same.
      answered_anew (in_time s t) t (with_answer t oldest (OfClosing stream closing)).answered (Some (endings.Closed closing (id_of oldest.copy))) same;
}) s now refl

-- but for what was struck
abbrev pub IsStruck : PlainSession → PlainSession → Type 0
IsStruck s t = t ≡ record s { placings = t.placings; tickets = t.tickets }

pub struck_leaves : (s : PlainSession) → IsStruck s (struck s)
struck_leaves s = struck-by (IsStruck s) (λ t rid on holds is same. struck_anew (record s { placings = t.placings; tickets = t.tickets }) t (strike t rid).placings (strike t rid).tickets same) s refl

pub advanced_leaves : (s : PlainSession) → IsProcessed s (advanced s)
advanced_leaves s = advanced-by (IsProcessed s) (record {
  processes = λ t copy on stands broken further same.
      let u : PlainSession = with_copy t copy in
      processed_anew (is_processed s t) t u.processed u.key u.period u.acknowledged u.reporting.due t.ending same;
  terminates = λ t copy on stands broken last same.
      let u : PlainSession = with_copy t copy in
      processed_anew (is_processed s t) t u.processed u.key u.period u.acknowledged u.reporting.due (Some (endings.Terminated (id_of copy))) same;
  breaks = λ t copy ending on stands broken same. ended_anew (is_processed s t) t (Some ending) same;
}) s refl
