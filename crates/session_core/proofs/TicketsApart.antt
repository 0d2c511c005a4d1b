-- Processing, answering and ending a session neither ask for its tickets nor change them.
use Rattle.std.proofs.Common.{◌≡◌, ℕ, zero, suc, ◌-◌, ◌==◌, Bool, true, false, List, [], ◌∷◌, Option, Some, None, length, refl, ◌∙◌, ap}
use Rattle.std.specs.Prelude.{if◌then◌else◌}
use Rattle.bosh_types.specs.Rid.{greatest_rid}
use Rattle.bosh_types.specs.declared.ending.Ending.{Ending}
use Rattle.bosh_types.specs.declared.ending.Ending.TheVariants.{Closed}
use Rattle.session_core.specs.declared.copy.RequestCopy.{RequestCopy}
use Rattle.session_core.specs.Answers.{has_reason, has_reason_for, closed_by, with_answer, front_for, answer_oldest, settled_in, settled}
use Rattle.session_core.specs.Copy.{id_of}
use Rattle.session_core.specs.Endings.{ended}
use Rattle.session_core.specs.Machine.{as_processed, unless_terminate, with_copy, process, next_copy, advanced_in, advanced}
use Rattle.session_core.specs.Outward.{Front, OfStanzas, OfClosing}
use Rattle.session_core.specs.Processed.{Processed, ends}
use Rattle.session_core.specs.Rules.{asked_of, broken_rule}
use Rattle.session_core.specs.State.{PlainSession, Issued, held, last_of, running}

-- the session with these tickets
abbrev pub with_tickets : List Issued → PlainSession → PlainSession
with_tickets tickets s = record s { tickets = tickets }

module _ (tickets : List Issued) where
  terminate_apart : (b : Bool) (ending : Ending) (s : PlainSession)
      → (if b then ended ending (with_tickets tickets s) else with_tickets tickets s) ≡ with_tickets tickets (if b then ended ending s else s)
  terminate_apart true ending s = refl
  terminate_apart false ending s = refl

  rule_apart : (o : Option Ending) (s : PlainSession) (copy : RequestCopy)
      → (elim o as (λ x. PlainSession) [ Some ending ↦ ended ending (with_tickets tickets s) | None ↦ unless_terminate (with_copy (with_tickets tickets s) copy) (as_processed s copy) ])
      ≡ with_tickets tickets (elim o as (λ x. PlainSession) [ Some ending ↦ ended ending s | None ↦ unless_terminate (with_copy s copy) (as_processed s copy) ])
  rule_apart (Some ending) s copy = refl
  rule_apart None s copy = terminate_apart (ends (as_processed s copy)) _ (with_copy s copy)

  pub process_apart : (s : PlainSession) (copy : RequestCopy) → process (with_tickets tickets s) copy ≡ with_tickets tickets (process s copy)
  process_apart s copy = rule_apart (broken_rule (asked_of s) copy) s copy

  advance_from : (ids : ℕ) (o : Option RequestCopy) (s : PlainSession)
      → ((copy : RequestCopy) → advanced_in ids (process (with_tickets tickets s) copy) ≡ with_tickets tickets (advanced_in ids (process s copy)))
      → (elim o as (λ x. PlainSession) [ None ↦ with_tickets tickets s | Some copy ↦ advanced_in ids (process (with_tickets tickets s) copy) ])
      ≡ with_tickets tickets (elim o as (λ x. PlainSession) [ None ↦ s | Some copy ↦ advanced_in ids (process s copy) ])
  advance_from ids None s more = refl
  advance_from ids (Some copy) s more = more copy

  advanced_in_apart : (ids : ℕ) (s : PlainSession) → advanced_in ids (with_tickets tickets s) ≡ with_tickets tickets (advanced_in ids s)
  advanced_in_apart zero s = refl
  advanced_in_apart (suc ids) s =
      advance_from ids (next_copy s) s (λ copy. ap (advanced_in ids) (process_apart s copy) ∙ advanced_in_apart ids (process s copy))

  pub advanced_apart : (s : PlainSession) → advanced (with_tickets tickets s) ≡ with_tickets tickets (advanced s)
  advanced_apart s = advanced_in_apart (greatest_rid - last_of s) s

  closed_apart : (rid : ℕ) (front : Front) (s : PlainSession) → closed_by rid front (with_tickets tickets s) ≡ with_tickets tickets (closed_by rid front s)
  closed_apart rid (OfStanzas items) s = refl
  closed_apart rid (OfClosing stream closing) s = terminate_apart (length (running s) == 0) (Closed closing rid) s

  answer_apart : (s : PlainSession) (copies : List Processed) → answer_oldest (with_tickets tickets s) copies ≡ with_tickets tickets (answer_oldest s copies)
  answer_apart s [] = refl
  answer_apart s (oldest ∷ later) = closed_apart (id_of oldest.copy) (front_for s oldest) (with_answer s oldest (front_for s oldest))

  reason_apart : (s : PlainSession) (copies : List Processed) → has_reason_for (with_tickets tickets s) copies ≡ has_reason_for s copies
  reason_apart s [] = refl
  reason_apart s (oldest ∷ later) = refl

  settle_from : (b : Bool) (x y z : PlainSession) → x ≡ with_tickets tickets y → (if b then x else with_tickets tickets z) ≡ with_tickets tickets (if b then y else z)
  settle_from true x y z same = same
  settle_from false x y z same = refl

  settled_in_apart : (count : ℕ) (s : PlainSession) → settled_in count (with_tickets tickets s) ≡ with_tickets tickets (settled_in count s)
  settled_in_apart zero s = refl
  settled_in_apart (suc count) s =
      ap (λ (b : Bool). if b then settled_in count (answer_oldest (with_tickets tickets s) (held s)) else with_tickets tickets s) (reason_apart s (held s))
      ∙ settle_from (has_reason s) (settled_in count (answer_oldest (with_tickets tickets s) (held s))) (settled_in count (answer_oldest s (held s))) s
      (ap (settled_in count) (answer_apart s (held s)) ∙ settled_in_apart count (answer_oldest s (held s)))

  pub settled_apart : (s : PlainSession) → settled (with_tickets tickets s) ≡ with_tickets tickets (settled s)
  settled_apart s = settled_in_apart (length (held s)) s
