-- Settling and advancing, step by step.
use Rattle.std.proofs.Common.{◌≡◌, ℕ, zero, suc, ◌+◌, ◌-◌, ◌<◌, ◌≤◌, Bool, true, false, Option, Some, None, length, refl, sym, ◌∙◌, ap, arith}
use Rattle.std.specs.Prelude.{if◌then◌else◌}
use Rattle.bosh_types.specs.Rid.{greatest_rid}
use Rattle.session_core.specs.declared.copy.RequestCopy.{RequestCopy}
use Rattle.session_core.specs.declared.session.Session.{Session}
use Rattle.session_core.specs.Answers.{has_reason, answer_oldest, settled_in, settled}
use Rattle.session_core.specs.Machine.{advanced, advanced_in, next_copy, process}
use Rattle.session_core.specs.StandsFor.{Holds}
use Rattle.session_core.specs.State.{PlainSession, held}
use Rattle.session_core.proofs.StandingLemmas.{held_length}

-- without a reason nothing is answered
pub settle_stop : (count : ℕ) (s : PlainSession) → has_reason s ≡ false → settled_in count s ≡ s
settle_stop zero s none = refl
settle_stop (suc count) s none = ap (λ (b : Bool). if b then settled_in count (answer_oldest s (held s)) else s) none

-- one request is answered, and then the rest
pub settle_more : (count done : ℕ) (s : PlainSession) → done < count → has_reason s ≡ true
    → settled_in (count - (done + 1)) (answer_oldest s (held s)) ≡ settled_in (count - done) s
settle_more count done s more reason =
    let left : suc (count - (done + 1)) ≡ count - done = omega arith in
    sym (ap (λ (b : Bool). if b then settled_in (count - (done + 1)) (answer_oldest s (held s)) else s) reason)
    ∙ ap (λ (n : ℕ). settled_in n s) left

pub settle_begin : {s : Session} {plain : PlainSession} → Holds s plain → settled_in (length s.held - 0) plain ≡ settled plain
settle_begin {s = s} {plain = plain} h =
    let same : length s.held - 0 ≡ length (held plain) = omega (arith, held_length h) in
    ap (λ (n : ℕ). settled_in n plain) same

pub settle_end : (count done : ℕ) (s : PlainSession) → count ≤ done → settled_in (count - done) s ≡ s
settle_end count done s all =
    let none : count - done ≡ 0 = omega arith in
    ap (λ (n : ℕ). settled_in n s) none

-- without a next copy nothing is processed
pub advance_stop : (ids : ℕ) (s : PlainSession) → next_copy s ≡ None → advanced_in ids s ≡ s
advance_stop zero s none = refl
advance_stop (suc ids) s none = ap (λ (o : Option RequestCopy). elim o as (λ x. PlainSession) [ None ↦ s | Some copy ↦ advanced_in ids (process s copy) ]) none

pub advance_more : (first id : ℕ) (s : PlainSession) (copy : RequestCopy) → first ≤ id → id < greatest_rid → next_copy s ≡ Some copy
    → advanced_in (greatest_rid - (id + 1)) (process s copy) ≡ advanced_in (greatest_rid - id) s
advance_more first id s copy from below next =
    let left : suc (greatest_rid - (id + 1)) ≡ greatest_rid - id = omega arith in
    sym (ap (λ (o : Option RequestCopy). elim o as (λ x. PlainSession) [ None ↦ s | Some copy ↦ advanced_in (greatest_rid - (id + 1)) (process s copy) ]) next)
    ∙ ap (λ (n : ℕ). advanced_in n s) left

pub advance_begin : {s : Session} {plain : PlainSession} → Holds s plain → advanced_in (greatest_rid - s.last) plain ≡ advanced plain
advance_begin {s = s} {plain = plain} h = ap (λ (n : ℕ). advanced_in (greatest_rid - n) plain) h.run.last_is

pub advance_end : (id : ℕ) (s : PlainSession) → greatest_rid ≤ id → advanced_in (greatest_rid - id) s ≡ s
advance_end id s all =
    let none : greatest_rid - id ≡ 0 = omega arith in
    ap (λ (n : ℕ). advanced_in n s) none
