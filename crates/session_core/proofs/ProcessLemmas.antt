-- A copy is processed, or ends the session.
use Rattle.std.proofs.Common.{◌≡◌, ℕ, ◌+◌, ◌<◌, ◌==◌, ◌&&◌, nat_lt, Bool, true, false, Option, Some, None, length, map, refl, sym, ◌∙◌, ap, subst, arith}
use Rattle.std.specs.Prelude.{if◌then◌else◌}
use Rattle.std.specs.List.{list_all}
use Rattle.bosh_types.specs.Limits.{most_streams}
use Rattle.stream_names.specs.Streams.{is_among}
use Rattle.bosh_types.specs.ById.{at_id}
use Rattle.bosh_types.specs.Rid.{greatest_rid}
use Rattle.bosh_types.specs.declared.ending.Ending.{Ending}
use Rattle.bosh_types.specs.declared.ending.Ending.TheVariants.{Terminated, WrongKey, UnknownStream, PauseTooLong, Overactive}
use Rattle.key_sequence.specs.Current.{fits}
use Rattle.pause_rules.specs.Overactive.{apart, is_overactive}
use Rattle.session_core.specs.declared.copy.RequestCopy.{RequestCopy}
use Rattle.session_core.specs.declared.session.Session.{Session}
use Rattle.session_core.specs.Copy.{id_of, is_pause, with_id}
use Rattle.session_core.specs.Endings.{ended}
use Rattle.session_core.specs.Machine.{as_processed, next_copy, opened_by, process, unless_terminate, with_copy}
use Rattle.session_core.specs.Processed.{Processed, ends, targets_of}
use Rattle.session_core.specs.Rules.{Asks, Keys, Streams, Pauses, Activity, breaks, broken_rule, asked_of, mark_of, names_none, pause_breaks}
use Rattle.session_core.specs.StandsFor.{Alike, Holds, asks_of}
use Rattle.session_core.specs.State.{PlainSession, answered_of, opened_in, running, standing}
use Rattle.session_core.specs.Words.{IsAnswerable}
use Rattle.session_core.proofs.StandingLemmas.{held_length}
use Rattle.session_core.proofs.StreamLemmas.{ends_at, not_add}
use Rattle.session_core.proofs.TakenUp.{next_stands, some_below}

answerable_if : (n : ℕ) (b : Bool) (told ending : Ending) → IsAnswerable n told → (if b then Some told else None) ≡ Some ending → IsAnswerable n ending
answerable_if n true told ending is some =
    let same : told ≡ ending = cc in
    subst (IsAnswerable n) same is
answerable_if n false told ending is some = absurd (cc)

answerable_unless : (n : ℕ) (b : Bool) (told ending : Ending) → IsAnswerable n told → (if b then None else Some told) ≡ Some ending → IsAnswerable n ending
answerable_unless n true told ending is some = absurd (cc)
answerable_unless n false told ending is some =
    let same : told ≡ ending = cc in
    subst (IsAnswerable n) same is

answerable_pause : (n : ℕ) (asks : Asks) (copy : RequestCopy) (pause : Option ℕ) (ending : Ending) → pause_breaks asks copy pause ≡ Some ending → IsAnswerable n ending
answerable_pause n asks copy None ending some = absurd (cc)
answerable_pause n asks copy (Some seconds) ending some =
    answerable_if n (is_pause copy && nat_lt asks.terms.maxpause seconds) (PauseTooLong (id_of copy) seconds asks.terms.maxpause) ending tt some

first_of_two : (n : ℕ) (o rest : Option Ending) (ending : Ending) → ((e : Ending) → o ≡ Some e → IsAnswerable n e) → (rest ≡ Some ending → IsAnswerable n ending)
    → (elim o as (λ x. Option Ending) [ Some e ↦ Some e | None ↦ rest ]) ≡ Some ending → IsAnswerable n ending
first_of_two n None rest ending first second some = second some
first_of_two n (Some e) rest ending first second some =
    let same : e ≡ ending = cc in
    subst (IsAnswerable n) same (first e refl)

-- no rule ends a session as a terminate does
pub broken_answerable : (n : ℕ) (asks : Asks) (copy : RequestCopy) (ending : Ending) → broken_rule asks copy ≡ Some ending → IsAnswerable n ending
broken_answerable n asks copy ending some =
    first_of_two n (breaks asks copy Keys) _ ending (λ e. answerable_unless n (fits asks.key copy.request.key) (WrongKey (id_of copy)) e tt)
    (first_of_two n (breaks asks copy Streams) _ ending (λ e. answerable_if n (names_none asks.running copy.request.stream) (UnknownStream (id_of copy)) e tt)
    (first_of_two n (breaks asks copy Pauses) _ ending (λ e. answerable_pause n asks copy copy.request.pause e)
    (first_of_two n (breaks asks copy Activity) None ending
    (λ e. answerable_if n (is_overactive asks.terms asks.held (mark_of copy) asks.prior) (Overactive (id_of copy) (apart (mark_of copy) asks.prior)) e tt)
    (λ none. absurd (cc))))) some

module _ {s : Session} {plain : PlainSession} where
  -- what the rules ask of the session is what they ask of the plain one
  pub asks_is : Holds s plain → asks_of s ≡ asked_of plain
  asks_is h =
      let key : s.keys ≡ plain.key = ap (λ (a : Alike). a.key) h.alike in
      let terms : s.deadlines.terms ≡ plain.terms = ap (λ (a : Alike). a.pace.terms) h.alike in
      (λ i. record {
        key = key i;
        terms = terms i;
        running = h.streams.running_is i;
        held = held_length h i;
        prior = record (h.latest.latest_is i) { bare = (held_length h i == 0) && h.latest.bare_is i };
      })

  -- where a copy is next, there is an id after those that were answered
  pub next_below : (copy : RequestCopy) → Holds s plain → next_copy plain ≡ Some copy → answered_of plain < greatest_rid
  next_below copy h next =
      let some = next_stands plain copy next in
      let at : at_id (map with_id (standing plain)) (s.last + 1) ≡ Some copy =
      ap (λ (last : ℕ). at_id (map with_id (standing plain)) (last + 1)) h.run.last_is ∙ some.1 in
      omega (arith, some_below plain.creation (standing plain) s.last copy h.window.ids at, h.run.last_is, h.run.within)

by_rule : (o : Option Ending) (plain : PlainSession) (copy : RequestCopy) (other : Option Ending) → o ≡ other
    → (elim o as (λ x. PlainSession) [ Some ending ↦ ended ending plain | None ↦ unless_terminate (with_copy plain copy) (as_processed plain copy) ])
    ≡ (elim other as (λ x. PlainSession) [ Some ending ↦ ended ending plain | None ↦ unless_terminate (with_copy plain copy) (as_processed plain copy) ])
by_rule o plain copy other same = ap (λ (p : Option Ending). elim p as (λ x. PlainSession) [ Some ending ↦ ended ending plain | None ↦ unless_terminate (with_copy plain copy) (as_processed plain copy) ]) same

pub process_broken : (plain : PlainSession) (copy : RequestCopy) (ending : Ending) → broken_rule (asked_of plain) copy ≡ Some ending → process plain copy ≡ ended ending plain
process_broken plain copy ending is = by_rule (broken_rule (asked_of plain) copy) plain copy (Some ending) is

pub process_unbroken : (plain : PlainSession) (copy : RequestCopy) → broken_rule (asked_of plain) copy ≡ None → process plain copy ≡ unless_terminate (with_copy plain copy) (as_processed plain copy)
process_unbroken plain copy is = by_rule (broken_rule (asked_of plain) copy) plain copy None is

pub terminates : (plain : PlainSession) (one : Processed) → ends one ≡ true → unless_terminate plain one ≡ ended (Terminated (id_of one.copy)) plain
terminates plain one is = ap (λ (b : Bool). if b then ended (Terminated (id_of one.copy)) plain else plain) is

pub goes_on : (plain : PlainSession) (one : Processed) → ends one ≡ false → unless_terminate plain one ≡ plain
goes_on plain one is = ap (λ (b : Bool). if b then ended (Terminated (id_of one.copy)) plain else plain) is

-- a copy that is no terminate ends nothing
pub kept_on : (plain : PlainSession) (copy : RequestCopy) → copy.request.terminate ≡ false → unless_terminate (with_copy plain copy) (as_processed plain copy) ≡ with_copy plain copy
kept_on plain copy is = goes_on (with_copy plain copy) (as_processed plain copy) (ap (λ (b : Bool). b && list_all (is_among (targets_of (as_processed plain copy))) (running plain)) is)

-- a terminate ends the session where nothing is open after it
pub ends_by : {s after : Session} {plain : PlainSession} (copy : RequestCopy) (b : Bool) → Holds s plain → Holds after (with_copy plain copy) → copy.request.terminate ≡ true
    → b ≡ (length after.streams.running == 0) → ends (as_processed plain copy) ≡ b
ends_by {after = after} {plain = plain} copy b h up is empty =
    let none : opened_by plain copy ≡ None = ap (λ (adds : Bool). if adds && nat_lt (opened_in plain.processed) most_streams then Some (opened_in plain.processed) else None) (not_add copy is) in
    ends_at h.streams copy (opened_by plain copy) after.streams.running is none up.streams.running_is ∙ sym empty
