-- What becomes of requests that wait, as their tickets are collected.
use Rattle.std.proofs.Common.{◌≡◌, ℕ, zero, suc, ◌+◌, ◌<◌, ◌==◌, ◌&&◌, Bool, true, false, not, List, [], ◌∷◌, ◌++◌, All, map, length, Option, Some, None, refl, sym, subst, ◌∙◌, ap, arith, cond, if◌then◌else◌}
use Rattle.std.specs.Prelude.{⊤, count_by, is_some, slice_get}
use Rattle.std.specs.Option.{option_map, option_or}
use Rattle.std.proofs.lemmas.List.Elements.{All-nil, All-cons, All-head, All-tail, All-append, All-weaker}
use Rattle.bosh_types.specs.declared.ending.Ending.{Ending}
use Rattle.bosh_types.specs.declared.inward.Inward.{Inward}
use Rattle.session_core.specs.declared.replies.Collected.{Collected}
use Rattle.session_core.specs.declared.replies.Collected.TheVariants as collections
use Rattle.session_core.specs.Journal.{Collect, Journal, IsJournal, state_of}
use Rattle.session_core.specs.Endings.{last_word}
use Rattle.session_core.specs.Kept.{answer_at}
use Rattle.session_core.specs.Machine.{bytes_for, collect, collected_by, collected_bytes, collected_from}
use Rattle.session_core.specs.State.{PlainSession, Issued, TicketState, Waits, Replaced, Struck, UsedUp, answered_of, is_over}
use Rattle.session_core.specs.TicketsOut.{issued_at}
use Rattle.session_laws.proofs.Tests.{some_is, true_false}
use Rattle.session_calls.specs.After.{after_call}
use Rattle.script_text.specs.declared.live.Parked.{Parked}
use Rattle.script_text.specs.declared.report.ReportLine.{ReportLine}
use Rattle.script_text.specs.declared.report.ReportLine.TheVariants.{In, Out, Lost, Gone, Over}
use Rattle.script_text.specs.Fates.{is_gone, is_lost, is_out, is_replaced, lost_place, was_on}
use Rattle.script_text.specs.Live.{collected_lines, fate, fate_lines, is_not_yet, still, still_parked}
use Rattle.script_text.specs.Manager.{waits_on}
use Rattle.script_text.proofs.JournalSteps.{collect_same}
use Rattle.script_text.proofs.OutLemmas.{IsOut, Rise, is_used, all_out_next, all_places_next, next, state_next}
use Rattle.script_text.proofs.SessionsLemmas.{count_append, count_cons}

-- the reply to a ticket that is out, by whether a later copy took its request's place
abbrev Fits : Bool → Collected → Type 0
Fits lost (collections.Answer body) = lost ≡ false
Fits lost collections.NotYet = lost ≡ false
Fits lost collections.Superseded = lost ≡ true
Fits lost collections.UnknownTicket = ⊥

fate_fits : (s : PlainSession) (parked : Parked) → IsOut s parked → Fits (lost_place s parked) (collect s parked.ticket).1
fate_fits s parked out = by parked.ticket out
  where
    bytes_fit : (index : ℕ) (t : Issued) (o : Option (List ℕ)) → Fits false (collected_bytes s index t o).1
    bytes_fit index t None = refl
    bytes_fit index t (Some bytes) = refl

    state_fits : (index : ℕ) (t : Issued) (state : TicketState) → is_used state ≡ false → Fits (is_replaced state) (collected_by s index t state).1
    state_fits index t Waits out = bytes_fit index t (bytes_for s t.rid)
    state_fits index t Replaced out = refl
    state_fits index t Struck out = refl
    state_fits index t UsedUp out = absurd (cc)

    by : (number : ℕ) → (t : Issued) × (issued_at s.tickets number ≡ Some t) × (is_used t.state ≡ false)
        → Fits (elim (issued_at s.tickets number) [ None ↦ false | Some ticket ↦ is_replaced ticket.state ]) (collect s number).1
    by zero (t, at, out) = absurd (cc)
    by (suc index) (t, at, out) = subst (λ (o : Option Issued). Fits (elim o [ None ↦ false | Some ticket ↦ is_replaced ticket.state ]) (collected_from s index o).1) (sym at) (state_fits index t t.state out)

-- One request.

and_false : (a : Bool) → a && false ≡ false
and_false true = refl
and_false false = refl

and_true : (a : Bool) → a && true ≡ a
and_true true = refl
and_true false = refl

module _ (conn : ℕ) where
  -- one that waits there, or waited there when the connection was closed
  abbrev one_open : Parked → ℕ
  one_open parked = count_by (waits_on conn) (parked ∷ [])

  abbrev one_shut : Parked → ℕ
  one_shut parked = count_by (was_on conn) (parked ∷ [])

  -- the lines of one, and what is left of it
  pub record OneFate (parked : Parked) (lost : Bool) (lines : List ReportLine) (left : List Parked) : Type 0 where
    pub on_open : one_open parked ≡ count_by (is_out conn) lines + count_by (is_gone conn) lines + count_by (waits_on conn) left
    pub gone : count_by (is_gone conn) lines ≡ cond (waits_on conn parked && lost) 1 0
    pub shut : one_shut parked ≡ count_by (is_lost conn) lines + cond (was_on conn parked && lost) 1 0 + count_by (was_on conn) left

  abbrev tail_of : Bool → ℕ
  tail_of b = cond b 1 0

  answered_by : (ticket other : ℕ) (is_open : Bool) (body : List ℕ)
      → OneFate (record { ticket = ticket; conn = other; is_open = is_open }) false (fate_lines (record { ticket = ticket; conn = other; is_open = is_open }) (collections.Answer body)) []
  answered_by ticket other true body = record {
    on_open = omega arith;
    gone = ap tail_of (sym (and_false (other == conn)));
    shut = omega arith;
  }
  answered_by ticket other false body = record {
    on_open = omega arith;
    gone = refl;
    shut =
        let none : cond ((other == conn) && false) 1 0 ≡ 0 = ap tail_of (and_false (other == conn)) in
        omega (arith, none);
  }

  replaced_by_copy : (ticket other : ℕ) (is_open : Bool)
      → OneFate (record { ticket = ticket; conn = other; is_open = is_open }) true (fate_lines (record { ticket = ticket; conn = other; is_open = is_open }) collections.Superseded) []
  replaced_by_copy ticket other true =
      let it : cond ((other == conn) && true) 1 0 ≡ cond (other == conn) 1 0 = ap tail_of (and_true (other == conn)) in
      record {
        on_open = omega arith;
        gone = omega (arith, it);
        shut = omega arith;
      }
  replaced_by_copy ticket other false =
      let it : cond ((other == conn) && true) 1 0 ≡ cond (other == conn) 1 0 = ap tail_of (and_true (other == conn)) in
      record {
        on_open = omega arith;
        gone = refl;
        shut = omega (arith, it);
      }

  waits_on_still : (parked : Parked) → OneFate parked false [] (parked ∷ [])
  waits_on_still parked = record {
    on_open = omega arith;
    gone = ap tail_of (sym (and_false (waits_on conn parked)));
    shut =
        let none : cond (was_on conn parked && false) 1 0 ≡ 0 = ap tail_of (and_false (was_on conn parked)) in
        omega (arith, none);
  }

  one_fate : (parked : Parked) (lost : Bool) (reply : Collected) → Fits lost reply → OneFate parked lost (fate_lines parked reply) (still parked reply)
  one_fate parked false (collections.Answer body) fits = answered_by parked.ticket parked.conn parked.is_open body
  one_fate parked true (collections.Answer body) fits = absurd (cc)
  one_fate parked false collections.NotYet fits = waits_on_still parked
  one_fate parked true collections.NotYet fits = absurd (cc)
  one_fate parked false collections.Superseded fits = absurd (cc)
  one_fate parked true collections.Superseded fits = replaced_by_copy parked.ticket parked.conn parked.is_open
  one_fate parked lost collections.UnknownTicket fits = absurd fits

  -- All of them.

  pub record Fates (s : PlainSession) (parked : List Parked) (lines : List ReportLine) (left : List Parked) : Type 0 where
    pub on_open : count_by (waits_on conn) parked ≡ count_by (is_out conn) lines + count_by (is_gone conn) lines + count_by (waits_on conn) left
    pub gone : count_by (is_gone conn) lines ≡ count_by (λ p. waits_on conn p && lost_place s p) parked
    pub shut : count_by (was_on conn) parked ≡ count_by (is_lost conn) lines + count_by (λ p. was_on conn p && lost_place s p) parked + count_by (was_on conn) left

  count_same : (p q : Parked → Bool) (parked : List Parked) → All (λ x. p x ≡ q x) parked → count_by p parked ≡ count_by q parked
  count_same p q [] same = refl
  count_same p q (first ∷ parked) same =
      count_cons p first parked
      ∙ ap (λ b. cond b 1 0 + count_by p parked) (All-head (λ x. p x ≡ q x) first parked same)
      ∙ ap (λ n. cond (q first) 1 0 + n) (count_same p q parked (All-tail (λ x. p x ≡ q x) first parked same))
      ∙ sym (count_cons q first parked)

  places_same : (journal : Journal) (first : Parked) (p : Parked → Bool) (parked : List Parked) → Rise first.ticket parked
      → count_by (λ x. p x && lost_place (state_of (next journal first)) x) parked ≡ count_by (λ x. p x && lost_place (state_of journal) x) parked
  places_same journal first p parked rises = count_same (λ x. p x && lost_place (state_of (next journal first)) x) (λ x. p x && lost_place (state_of journal) x) parked
      (All-weaker (λ x. lost_place (state_of (next journal first)) x ≡ lost_place (state_of journal) x) (λ x. (p x && lost_place (state_of (next journal first)) x) ≡ (p x && lost_place (state_of journal) x))
      (λ x same. ap (λ b. p x && b) same) parked (all_places_next journal first parked rises))

  pub collected_fates : (parked : List Parked) (low : ℕ) (journal : Journal) → Rise low parked → All (IsOut (state_of journal)) parked
      → Fates (state_of journal) parked (collected_lines journal parked) (still_parked journal parked)
  collected_fates [] low journal rises out = record { on_open = refl; gone = refl; shut = refl }
  collected_fates (first ∷ parked) low journal rises out =
      let s : PlainSession = state_of journal in
      let then_ : Journal = next journal first in
      let lost : Bool = lost_place s first in
      let one = one_fate first lost (fate journal first) (fate_fits s first (All-head (IsOut s) first parked out)) in
      let rest = collected_fates parked first.ticket then_ rises.1 (all_out_next journal first parked rises.1 (All-tail (IsOut s) first parked out)) in
      let here : List ReportLine = fate_lines first (fate journal first) in
      let later : List ReportLine = collected_lines then_ parked in
      let left : List Parked = still first (fate journal first) in
      let kept : List Parked = still_parked then_ parked in
      let o = count_append (is_out conn) here later in
      let g = count_append (is_gone conn) here later in
      let l = count_append (is_lost conn) here later in
      let w = count_append (waits_on conn) left kept in
      let c = count_append (was_on conn) left kept in
      let open_first = count_cons (waits_on conn) first parked in
      let shut_first = count_cons (was_on conn) first parked in
      let gone_first = count_cons (λ p. waits_on conn p && lost_place s p) first parked in
      let untold_first = count_cons (λ p. was_on conn p && lost_place s p) first parked in
      let gone_same = places_same journal first (waits_on conn) parked rises.1 in
      let untold_same = places_same journal first (was_on conn) parked rises.1 in
      record {
        on_open = omega (arith, o, g, w, open_first, one.on_open, rest.on_open);
        gone = omega (arith, g, gone_first, gone_same, one.gone, rest.gone);
        shut = omega (arith, l, c, shut_first, untold_first, untold_same, one.shut, rest.shut);
      }

-- In a session that has ended none waits on.

bytes_over : (s : PlainSession) (rid : ℕ) → is_over s ≡ true → bytes_for s rid ≡ None → ⊥
bytes_over s rid over none = by (option_map (λ answer. answer.bytes) (answer_at s rid)) s.ending over none
  where
    by : (o : Option (List ℕ)) (ending : Option Ending) → is_some ending ≡ true → option_or o (option_map (λ e. last_word (answered_of s) e rid) ending) ≡ None → ⊥
    by (Some bytes) ending over none = cc
    by None (Some e) over none = cc
    by None None over none = cc

over_tells : (s : PlainSession) (number : ℕ) → is_over s ≡ true → is_not_yet (collect s number).1 ≡ false
over_tells s zero over = refl
over_tells s (suc index) over = by_ticket (slice_get s.tickets index)
  where
    by_bytes : (t : Issued) (o : Option (List ℕ)) → bytes_for s t.rid ≡ o → is_not_yet (collected_bytes s index t o).1 ≡ false
    by_bytes t None is = absurd (bytes_over s t.rid over is)
    by_bytes t (Some bytes) is = refl

    by_state : (t : Issued) (state : TicketState) → is_not_yet (collected_by s index t state).1 ≡ false
    by_state t Waits = by_bytes t (bytes_for s t.rid) refl
    by_state t Replaced = refl
    by_state t Struck = refl
    by_state t UsedUp = refl

    by_ticket : (o : Option Issued) → is_not_yet (collected_from s index o).1 ≡ false
    by_ticket None = refl
    by_ticket (Some t) = by_state t t.state

pub none_left : (parked : List Parked) (journal : Journal) → is_over (state_of journal) ≡ true → still_parked journal parked ≡ []
none_left [] journal over = refl
none_left (first ∷ parked) journal over =
    let told = over_tells (state_of journal) first.ticket over in
    let after : is_over (state_of (next journal first)) ≡ true = ap is_over (state_next journal first) ∙ ap is_some (ap (λ (s : PlainSession). s.ending) (collect_same (state_of journal) first.ticket).1) ∙ over in
    ap (λ b. (if b then first ∷ [] else []) ++ still_parked (next journal first) parked) told ∙ none_left parked (next journal first) after
