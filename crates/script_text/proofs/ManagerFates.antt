-- What becomes of the requests that wait at a manager, with whatever a line does to it.
use Rattle.std.proofs.Common.{◌≡◌, ℕ, suc, ◌+◌, ◌<◌, ◌≤◌, ◌==◌, ◌&&◌, Bool, true, false, not, List, [], ◌∷◌, ◌++◌, All, map, length, drop, take, Option, Some, None, refl, sym, subst, ◌∙◌, ap, arith, cond, if◌then◌else◌}
use Rattle.std.specs.Prelude.{count_by, nat_lt, slice_get, sum_by, IsTrue}
use Rattle.std.specs.List.{list_any, position}
use Rattle.std.proofs.lemmas.Bool.{eq-eqb, eqb-false, eqb-true, ltb-true, ne_eqb}
use Rattle.std.proofs.lemmas.List.Elements.{All-nil, All-cons, All-head, All-tail, All-append, All-map, All-weaker}
use Rattle.std.proofs.lemmas.List.Sums.{sum_by-append, sum_by-cons}
use Rattle.bosh_types.specs.Limits.{most_sessions, most_openings}
use Rattle.bosh_types.specs.declared.hosts.HostName.{HostName}
use Rattle.body_writer.specs.Answer.{answer_text}
use Rattle.session_attrs.specs.Admission.{admitted_of}
use Rattle.session_attrs.specs.Serving.{can_serve}
use Rattle.session_attrs.specs.declared.admission.Admitted.{Admitted}
use Rattle.session_attrs.specs.declared.admission.Admitted.TheVariants as admitted
use Rattle.session_attrs.specs.declared.request.Creation.{Creation}
use Rattle.session_attrs.specs.declared.request.Kind.{Kind}
use Rattle.session_attrs.specs.declared.request.Kind.TheVariants as kinds
use Rattle.session_attrs.specs.declared.request.Request.{Request}
use Rattle.session_core.specs.Journal.{Arrive, Arrival, Entered, none as nothing_made, within_limit}
use Rattle.session_core.specs.Machine.{created_parts}
use Rattle.session_core.specs.State.{is_over}
use Rattle.session_core.specs.declared.opening.Opening.{Opening}
use Rattle.session_laws.proofs.Lists.{get_some}
use Rattle.session_laws.proofs.Tests.{both_true, none_some, split, true_false}
use Rattle.script_text.specs.declared.event.Event.{Event}
use Rattle.script_text.specs.declared.event.Event.TheVariants.{Arrives, Passes}
use Rattle.script_text.specs.declared.live.Parked.{Parked}
use Rattle.script_text.specs.declared.report.ReportLine.{ReportLine}
use Rattle.script_text.specs.declared.report.ReportLine.TheVariants.{Out}
use Rattle.script_text.specs.Entered.{arrives_at}
use Rattle.script_text.specs.Fates.{is_gone, is_lost, is_out, replaced_with, waiting_in, was_on}
use Rattle.script_text.specs.Live.{PlainLive, Turn, not_found, state, turn_at, if_live, if_over}
use Rattle.script_text.specs.Manager.{PlainManager, Change, admitted_to, at_host, closed, closed_on, comes, comes_at, comes_to, number_of, only, opened_live, opened_turn, opening_by, passed, passed_lines, passed_live, passed_over, place_of, posted, posted_as, posted_by, request_in, turned_at, waits_on, with_closed, with_opened}
use Rattle.script_text.specs.Posted.{is_number, named_of}
use Rattle.script_text.specs.Stands.{IsEvent}
use Rattle.script_text.proofs.OpeningLemmas.{opens}
use Rattle.script_text.proofs.OutLemmas.{IsOut, Rise, WaitWell}
use Rattle.script_text.proofs.OwnLemmas.{event_entry}
use Rattle.script_text.proofs.PositionLemmas.{none_there, some_within}
use Rattle.script_text.proofs.PostedLemmas.{number_at}
use Rattle.script_text.proofs.ReportLemmas.{Holds, read_from}
use Rattle.script_text.proofs.SessionsLemmas.{GoesOn, TellsAll, all_at, all_back, all_front, apart, count_append, count_cons, place_splits, swapped}
use Rattle.script_text.proofs.TurnFates.{HasFate, out_aside, posted_with, told_fate, turn_fate, unit}
use Rattle.script_text.proofs.TurnLemmas.{comes_turn}

-- nothing is entered
abbrev pub nothing : PlainLive → Option Entered
nothing s = None

abbrev pub Well : PlainLive → Type 0
Well s = WaitWell s.journal s.parked

-- in a session that has ended none waits
abbrev pub Ended : PlainLive → Type 0
Ended t = is_over (state t) ≡ true → t.parked ≡ []

ended_on : (t : PlainLive) → is_over (state t) ≡ false → Ended t
ended_on t on over = absurd (true_false (sym over ∙ on))

-- Sums.

module _ (p : Parked → Bool) where
  w_append : (xs ys : List PlainLive) → waiting_in p (xs ++ ys) ≡ waiting_in p xs + waiting_in p ys
  w_append xs ys = sum_by-append (λ (s : PlainLive). count_by p s.parked) xs ys

  w_cons : (x : PlainLive) (xs : List PlainLive) → waiting_in p (x ∷ xs) ≡ count_by p x.parked + waiting_in p xs
  w_cons x xs = sum_by-cons (λ (s : PlainLive). count_by p s.parked) x xs

  w_either : (t : PlainLive) → waiting_in p (if_over t) + waiting_in p (if_live t) ≡ count_by p t.parked
  w_either t = by (is_over (state t))
    where
      by : (b : Bool) → waiting_in p (if b then t ∷ [] else []) + waiting_in p (if b then [] else t ∷ []) ≡ count_by p t.parked
      by true = omega arith
      by false = omega arith

  r_append : (entry : PlainLive → Option Entered) (xs ys : List PlainLive)
      → sum_by (λ (s : PlainLive). replaced_with p s (entry s)) (xs ++ ys) ≡ sum_by (λ (s : PlainLive). replaced_with p s (entry s)) xs + sum_by (λ (s : PlainLive). replaced_with p s (entry s)) ys
  r_append entry xs ys = sum_by-append (λ (s : PlainLive). replaced_with p s (entry s)) xs ys

  r_cons : (entry : PlainLive → Option Entered) (x : PlainLive) (xs : List PlainLive)
      → sum_by (λ (s : PlainLive). replaced_with p s (entry s)) (x ∷ xs) ≡ replaced_with p x (entry x) + sum_by (λ (s : PlainLive). replaced_with p s (entry s)) xs
  r_cons entry x xs = sum_by-cons (λ (s : PlainLive). replaced_with p s (entry s)) x xs

  r_none : (entry : PlainLive → Option Entered) (live : List PlainLive) → All (λ s. entry s ≡ None) live → sum_by (λ (s : PlainLive). replaced_with p s (entry s)) live ≡ 0
  r_none entry [] none = refl
  r_none entry (s ∷ live) none =
      let one : replaced_with p s (entry s) ≡ 0 = ap (replaced_with p s) (All-head (λ x. entry x ≡ None) s live none) in
      let rest = r_none entry live (All-tail (λ x. entry x ≡ None) s live none) in
      let sum = r_cons entry s live in
      omega (arith, one, rest, sum)

-- A change.

pub record ChangeFate (conn : ℕ) (live : List PlainLive) (entry : PlainLive → Option Entered) (posted closed : ℕ) (lines : List ReportLine) (over after : List PlainLive) : Type 0 where
  pub on_open : waiting_in (waits_on conn) live + posted ≡ count_by (is_out conn) lines + count_by (is_gone conn) lines + closed + waiting_in (waits_on conn) (over ++ after)
  pub gone : count_by (is_gone conn) lines ≡ sum_by (λ (s : PlainLive). replaced_with (waits_on conn) s (entry s)) live
  pub shut : waiting_in (was_on conn) live + closed
      ≡ count_by (is_lost conn) lines + sum_by (λ (s : PlainLive). replaced_with (was_on conn) s (entry s)) live + waiting_in (was_on conn) (over ++ after)
  pub well : All Well after
  pub ended : All Ended (over ++ after)

abbrev FateAfter : ℕ → PlainManager → (PlainLive → Option Entered) → ℕ → ℕ → Change → Type 0
FateAfter conn m entry posted closed change = ChangeFate conn m.live entry posted closed change.lines change.over change.after.live

over_part : (P : PlainLive → Type 0) (t : PlainLive) → P t → All P (if_over t)
over_part P t p = by (is_over (state t))
  where
    by : (b : Bool) → All P (if b then t ∷ [] else [])
    by true = All-cons P t [] p (All-nil P)
    by false = All-nil P

live_part : (P : PlainLive → Type 0) (t : PlainLive) → P t → All P (if_live t)
live_part P t p = by (is_over (state t))
  where
    by : (b : Bool) → All P (if b then [] else t ∷ [])
    by true = All-nil P
    by false = All-cons P t [] p (All-nil P)

pub all_on : (report : List ReportLine) (live : List PlainLive) → All (GoesOn report) live → All Ended live
all_on report live going = All-weaker (GoesOn report) Ended (λ s g. ended_on s g.up.goes_on) live going

module _ (conn : ℕ) (report : List ReportLine) where
  -- no session is touched, and these lines are told
  pub still_fate : (live : List PlainLive) (entry : PlainLive → Option Entered) (lines : List ReportLine) (posted : ℕ) → All Well live → All (GoesOn report) live → All (λ s. entry s ≡ None) live
      → posted ≡ count_by (is_out conn) lines → count_by (is_gone conn) lines ≡ 0 → count_by (is_lost conn) lines ≡ 0 → ChangeFate conn live entry posted 0 lines [] live
  still_fate live entry lines posted well going none out gone lost =
      let open_none = r_none (waits_on conn) entry live none in
      let shut_none = r_none (was_on conn) entry live none in
      record {
        on_open = omega (arith, out, gone);
        gone = omega (arith, gone, open_none);
        shut = omega (arith, lost, shut_none);
        well = well;
        ended = all_on report live going;
      }

  nothing_entered : (live : List PlainLive) → All (λ s. nothing s ≡ None) live
  nothing_entered live = λ k d within. refl

  -- time passes
  passed_fate : (now : ℕ) (live : List PlainLive) → All Well live → All (GoesOn report) live
      → ChangeFate conn live (event_entry now Passes) 0 0 (passed_lines now live) (passed_over now live) (passed_live now live)
  passed_fate now [] well going = record { on_open = refl; gone = refl; shut = refl; well = All-nil Well; ended = All-nil Ended }
  passed_fate now (s ∷ live) well going =
      let turn : Turn = turn_at now Passes s in
      let t : PlainLive = turn.after in
      let f = turn_fate conn s (All-head (GoesOn report) s live going).up (All-head Well s live well) now Passes tt in
      let rest = passed_fate now live (All-tail Well s live well) (All-tail (GoesOn report) s live going) in
      let po : List PlainLive = passed_over now live in
      let pl : List PlainLive = passed_live now live in
      let o = count_append (is_out conn) turn.lines (passed_lines now live) in
      let g = count_append (is_gone conn) turn.lines (passed_lines now live) in
      let l = count_append (is_lost conn) turn.lines (passed_lines now live) in
      let w0 = w_cons (waits_on conn) s live in
      let w1 = w_append (waits_on conn) (if_over t ++ po) (if_live t ++ pl) in
      let w2 = w_append (waits_on conn) (if_over t) po in
      let w3 = w_append (waits_on conn) (if_live t) pl in
      let w4 = w_either (waits_on conn) t in
      let w5 = w_append (waits_on conn) po pl in
      let c0 = w_cons (was_on conn) s live in
      let c1 = w_append (was_on conn) (if_over t ++ po) (if_live t ++ pl) in
      let c2 = w_append (was_on conn) (if_over t) po in
      let c3 = w_append (was_on conn) (if_live t) pl in
      let c4 = w_either (was_on conn) t in
      let c5 = w_append (was_on conn) po pl in
      let r0 = r_cons (waits_on conn) (event_entry now Passes) s live in
      let r1 = r_cons (was_on conn) (event_entry now Passes) s live in
      record {
        on_open = omega (arith, f.on_open, rest.on_open, o, g, w0, w1, w2, w3, w4, w5);
        gone = omega (arith, f.gone, rest.gone, g, r0);
        shut = omega (arith, f.shut, rest.shut, l, c0, c1, c2, c3, c4, c5, r1);
        well = All-append Well (if_live t) pl (live_part Well t f.well) rest.well;
        ended = All-append Ended (if_over t ++ po) (if_live t ++ pl)
            (All-append Ended (if_over t) po (over_part Ended t f.ended) (all_front Ended po pl rest.ended))
            (All-append Ended (if_live t) pl (live_part Ended t f.ended) (all_back Ended po pl rest.ended));
      }

  module _ (over : List PlainLive) (m : PlainManager) (holds : Holds report over m) (well : All Well m.live) where
    pub all_passed_fate : (now : ℕ) → FateAfter conn m (event_entry now Passes) 0 0 (passed m now)
    all_passed_fate now = passed_fate now m.live well holds.tells.going

    -- something comes to the session with this number
    module _ (event : Event) (allowed : IsEvent event) (otherwise : ReportLine) (number : ℕ)
        (out : posted_with conn event ≡ count_by (is_out conn) (otherwise ∷ [])) (gone : count_by (is_gone conn) (otherwise ∷ []) ≡ 0) (lost : count_by (is_lost conn) (otherwise ∷ []) ≡ 0) where
      abbrev entry_of : PlainLive → Option Entered
      entry_of s = if is_number s.number (Some number) then event_entry m.moment event s else None

      apart_entry : (s : PlainLive) → (s.number == number) ≡ false → entry_of s ≡ None
      apart_entry s other = ap (λ b. if b then event_entry m.moment event s else None) (swapped s.number number other)

      turned_fate : (place : ℕ) (s : PlainLive) → slice_get m.live place ≡ Some s → s.number ≡ number → FateAfter conn m entry_of (posted_with conn event) 0 (turned_at m place (turn_at m.moment event s))
      turned_fate place s is same =
          let turn : Turn = turn_at m.moment event s in
          let t : PlainLive = turn.after in
          let front : List PlainLive = take place m.live in
          let back : List PlainLive = drop (suc place) m.live in
          let next : suc place ≡ place + 1 = omega arith in
          let splits : m.live ≡ front ++ s ∷ back = place_splits m.live place s is in
          let tells = subst (λ l. TellsAll report over l m.opened) splits holds.tells in
          let wells = subst (λ l. All Well l) splits well in
          let going = subst (λ l. All (GoesOn report) l) splits holds.tells.going in
          let up = (all_at (GoesOn report) m.live place s is holds.tells.going).up in
          let f = turn_fate conn s up (all_at Well m.live place s is well) m.moment event allowed in
          let differ : All (λ x. (x.number == s.number) ≡ false) (front ++ back) = apart report over front back s (turn_at m.moment Passes s) m.opened tells (comes_turn s m.moment Passes up tt) in
          let none = All-weaker (λ (x : PlainLive). (x.number == s.number) ≡ false) (λ x. entry_of x ≡ None)
          (λ x other. apart_entry x (subst (λ n. (x.number == n) ≡ false) same other)) (front ++ back) differ in
          let own : entry_of s ≡ event_entry m.moment event s = ap (λ b. if b then event_entry m.moment event s else None) (eq-eqb number s.number (sym same)) in
          let open_own : replaced_with (waits_on conn) s (entry_of s) ≡ replaced_with (waits_on conn) s (event_entry m.moment event s) = ap (replaced_with (waits_on conn) s) own in
          let shut_own : replaced_with (was_on conn) s (entry_of s) ≡ replaced_with (was_on conn) s (event_entry m.moment event s) = ap (replaced_with (was_on conn) s) own in
          let w0 = w_append (waits_on conn) front (s ∷ back) in
          let w1 = w_cons (waits_on conn) s back in
          let w2 = w_append (waits_on conn) (if_over t) (front ++ (if_live t ++ back)) in
          let w3 = w_append (waits_on conn) front (if_live t ++ back) in
          let w4 = w_append (waits_on conn) (if_live t) back in
          let w5 = w_either (waits_on conn) t in
          let c0 = w_append (was_on conn) front (s ∷ back) in
          let c1 = w_cons (was_on conn) s back in
          let c2 = w_append (was_on conn) (if_over t) (front ++ (if_live t ++ back)) in
          let c3 = w_append (was_on conn) front (if_live t ++ back) in
          let c4 = w_append (was_on conn) (if_live t) back in
          let c5 = w_either (was_on conn) t in
          let r0 = r_append (waits_on conn) entry_of front (s ∷ back) in
          let r1 = r_cons (waits_on conn) entry_of s back in
          let r2 = r_none (waits_on conn) entry_of front (all_front (λ x. entry_of x ≡ None) front back none) in
          let r3 = r_none (waits_on conn) entry_of back (all_back (λ x. entry_of x ≡ None) front back none) in
          let q0 = r_append (was_on conn) entry_of front (s ∷ back) in
          let q1 = r_cons (was_on conn) entry_of s back in
          let q2 = r_none (was_on conn) entry_of front (all_front (λ x. entry_of x ≡ None) front back none) in
          let q3 = r_none (was_on conn) entry_of back (all_back (λ x. entry_of x ≡ None) front back none) in
          let ons = all_on report (front ++ s ∷ back) going in
          let whole : ChangeFate conn (front ++ s ∷ back) entry_of (posted_with conn event) 0 turn.lines (if_over t) (front ++ (if_live t ++ back)) = record {
            on_open = omega (arith, f.on_open, w0, w1, w2, w3, w4, w5);
            gone = omega (arith, f.gone, r0, r1, r2, r3, open_own);
            shut = omega (arith, f.shut, c0, c1, c2, c3, c4, c5, q0, q1, q2, q3, shut_own);
            well = All-append Well front (if_live t ++ back) (all_front Well front (s ∷ back) wells)
                (All-append Well (if_live t) back (live_part Well t f.well) (All-tail Well s back (all_back Well front (s ∷ back) wells)));
            ended = All-append Ended (if_over t) (front ++ (if_live t ++ back)) (over_part Ended t f.ended)
                (All-append Ended front (if_live t ++ back) (all_front Ended front (s ∷ back) ons)
                (All-append Ended (if_live t) back (live_part Ended t f.ended) (All-tail Ended s back (all_back Ended front (s ∷ back) ons))));
          } in
          subst (λ n. ChangeFate conn m.live entry_of (posted_with conn event) 0 turn.lines (if_over t) (front ++ (if_live t ++ drop n m.live))) next
          (subst (λ l. ChangeFate conn l entry_of (posted_with conn event) 0 turn.lines (if_over t) (front ++ (if_live t ++ back))) (sym splits) whole)

      pub comes_fate : FateAfter conn m entry_of (posted_with conn event) 0 (comes m event otherwise number)
      comes_fate = by (place_of m number) refl
        where
          at : (place : ℕ) → place_of m number ≡ Some place → (o : Option PlainLive) → slice_get m.live place ≡ o → FateAfter conn m entry_of (posted_with conn event) 0 (comes_at m event otherwise place o)
          at place there None is =
              let some = get_some m.live place (some_within (λ s. s.number == number) m.live place there) in
              absurd (none_some (slice_get m.live place) some.0 is some.1)
          at place there (Some s) is = turned_fate place s is (number_at number m.live place s there is)

          by : (o : Option ℕ) → place_of m number ≡ o
              → FateAfter conn m entry_of (posted_with conn event) 0 (elim o as (λ x. Change) [ None ↦ only m otherwise | Some place ↦ comes_at m event otherwise place (slice_get m.live place) ])
          by None is = still_fate m.live entry_of (otherwise ∷ []) (posted_with conn event) well holds.tells.going
              (All-weaker (λ (s : PlainLive). (s.number == number) ≡ false) (λ s. entry_of s ≡ None) apart_entry m.live (none_there (λ (s : PlainLive). s.number == number) m.live is)) out gone lost
          by (Some place) is = at place is (slice_get m.live place) refl

    -- a body on a connection
    module _ (other : ℕ) (body : List ℕ) where
      abbrev one_posted : ℕ
      one_posted = if other == conn then 1 else 0

      answers_fate : (text : List ℕ) → FateAfter conn m nothing one_posted 0 (only m (Out other text))
      answers_fate text = still_fate m.live nothing (Out other text ∷ []) one_posted well holds.tells.going (nothing_entered m.live) (omega arith) refl refl

      module _ (request : Request) (is : request_in body ≡ Some request) where
        opened_fate : (creation : Creation) (host : HostName) → request.kind ≡ kinds.Creation creation → IsTrue (can_serve host)
            → nat_lt (length m.live) most_sessions && nat_lt m.opened most_openings ≡ true
            → FateAfter conn m nothing one_posted 0 (with_opened m (m.opened + 1) (opened_turn (m.opened + 1) other (opening_by host (m.opened + 1) body request creation m.moment)))
        opened_fate creation host kind good room =
            let o : Opening = opening_by host (m.opened + 1) body request creation m.moment in
            let s : PlainLive = opened_live (m.opened + 1) o in
            let small : m.opened < most_openings = ltb-true m.opened most_openings (both_true (nat_lt (length m.live) most_sessions) (nat_lt m.opened most_openings) room).1 in
            let opening = opens host (m.opened + 1) m.moment body o.sid host.name request creation o.terms good (omega (arith, small)) (omega (arith, small)) refl refl (read_from body request is) kind refl in
            let text : List ℕ = answer_text (created_parts o) in
            let turn : Turn = opened_turn (m.opened + 1) other o in
            let t : PlainLive = turn.after in
            let f = told_fate conn s (Out other text ∷ []) (opening, nothing_made) (omega arith) (record { rise = tt; out = All-nil (IsOut (state s)) }) (out_aside conn other text) in
            let w1 = w_append (waits_on conn) (if_over t) (m.live ++ if_live t) in
            let w2 = w_append (waits_on conn) m.live (if_live t) in
            let w3 = w_either (waits_on conn) t in
            let c1 = w_append (was_on conn) (if_over t) (m.live ++ if_live t) in
            let c2 = w_append (was_on conn) m.live (if_live t) in
            let c3 = w_either (was_on conn) t in
            let r0 = r_none (waits_on conn) nothing m.live (nothing_entered m.live) in
            let r1 = r_none (was_on conn) nothing m.live (nothing_entered m.live) in
            record {
              on_open = omega (arith, f.on_open, w1, w2, w3);
              gone = omega (arith, f.gone, r0);
              shut = omega (arith, f.shut, c1, c2, c3, r1);
              well = All-append Well m.live (if_live t) well (live_part Well t f.well);
              ended = All-append Ended (if_over t) (m.live ++ if_live t) (over_part Ended t f.ended)
                  (All-append Ended m.live (if_live t) (all_on report m.live holds.tells.going) (live_part Ended t f.ended));
            }

        host_fate : (creation : Creation) → request.kind ≡ kinds.Creation creation → (place : ℕ) (o : Option HostName) → slice_get m.hosts place ≡ o
            → FateAfter conn m nothing one_posted 0 (at_host m other body request creation o)
        host_fate creation kind place None at = answers_fate _
        host_fate creation kind place (Some host) at = split (FateAfter conn m nothing one_posted 0) (nat_lt (length m.live) most_sessions && nat_lt m.opened most_openings) _ _
            (opened_fate creation host kind (all_at (λ host. IsTrue (can_serve host)) m.hosts place host at holds.hosts))
            (λ full. answers_fate _)

        admitted_fate : (creation : Creation) → request.kind ≡ kinds.Creation creation → (to : Admitted) → FateAfter conn m nothing one_posted 0 (admitted_to m other body request creation to)
        admitted_fate creation kind admitted.Improper = answers_fate _
        admitted_fate creation kind admitted.Unknown = answers_fate _
        admitted_fate creation kind (admitted.Host place) = host_fate creation kind place (slice_get m.hosts place) refl

        abbrev entry_for : Option ℕ → PlainLive → Option Entered
        entry_for number s = if is_number s.number number then Some (within_limit (state s) Arrival m.moment (Arrive request body m.moment)) else None

        to_fate : (sid : List ℕ) → request.kind ≡ kinds.Later sid → (number : Option ℕ) → FateAfter conn m (entry_for number) one_posted 0 (comes_to m other body request number)
        to_fate sid kind None = answers_fate _
        to_fate sid kind (Some number) = comes_fate (Arrives other request body) (read_from body request is, (sid, kind)) (not_found other) number (omega arith) refl refl

        kind_fate : (kind : Kind) → request.kind ≡ kind → FateAfter conn m (entry_for (named_of kind)) one_posted 0 (posted_by m other body request kind)
        kind_fate (kinds.Later sid) kind = to_fate sid kind (number_of sid)
        kind_fate (kinds.Creation creation) kind = admitted_fate creation kind (admitted_of request.to m.hosts)

      as_fate : (o : Option Request) → request_in body ≡ o → FateAfter conn m (λ s. arrives_at m.moment body s o) one_posted 0 (posted_as m other body o)
      as_fate None is = answers_fate _
      as_fate (Some request) is = kind_fate request is request.kind refl

      pub posted_fate : FateAfter conn m (λ s. arrives_at m.moment body s (request_in body)) one_posted 0 (posted m other body)
      posted_fate = as_fate (request_in body) refl

-- A connection that breaks.

open_same : (o e : Bool) → unit ((o && not e) && e) ≡ 0
open_same true true = refl
open_same true false = refl
open_same false true = refl
open_same false false = refl

shut_same : (o e : Bool) → unit (not (o && not e) && e) ≡ unit (o && e) + unit (not o && e)
shut_same true true = refl
shut_same true false = refl
shut_same false true = refl
shut_same false false = refl

open_other : (o e d : Bool) → (e ≡ true → d ≡ false) → unit ((o && not d) && e) ≡ unit (o && e)
open_other true true true differ = absurd (true_false (differ refl))
open_other true true false differ = refl
open_other true false true differ = refl
open_other true false false differ = refl
open_other false true true differ = refl
open_other false true false differ = refl
open_other false false true differ = refl
open_other false false false differ = refl

shut_other : (o e d : Bool) → (e ≡ true → d ≡ false) → unit (not (o && not d) && e) ≡ unit (not o && e)
shut_other true true true differ = absurd (true_false (differ refl))
shut_other true true false differ = refl
shut_other true false true differ = refl
shut_other true false false differ = refl
shut_other false true true differ = refl
shut_other false true false differ = refl
shut_other false false true differ = refl
shut_other false false false differ = refl

module _ (conn other : ℕ) where
  -- the requests of one session, where that connection is this one, and where it isn't
  pub record Closing (closes : Bool) (parked : List Parked) : Type 0 where
    pub on_open : count_by (waits_on conn) (map (closed_on other) parked) ≡ (if closes then 0 else count_by (waits_on conn) parked)
    pub shut : count_by (was_on conn) (map (closed_on other) parked)
        ≡ (if closes then count_by (waits_on conn) parked else 0) + count_by (was_on conn) parked

  closing_same : other ≡ conn → (parked : List Parked) → Closing true parked
  closing_same same [] = record { on_open = refl; shut = refl }
  closing_same same (first ∷ parked) =
      let rest = closing_same same parked in
      let a = count_cons (waits_on conn) (closed_on other first) (map (closed_on other) parked) in
      let b = count_cons (was_on conn) (closed_on other first) (map (closed_on other) parked) in
      let c = count_cons (waits_on conn) first parked in
      let d = count_cons (was_on conn) first parked in
      let e : unit ((first.is_open && not (first.conn == other)) && (first.conn == conn)) ≡ 0
      = ap (λ k. unit ((first.is_open && not (first.conn == k)) && (first.conn == conn))) same ∙ open_same first.is_open (first.conn == conn) in
      let f : unit (not (first.is_open && not (first.conn == other)) && (first.conn == conn)) ≡ unit (first.is_open && (first.conn == conn)) + unit (not first.is_open && (first.conn == conn))
      = ap (λ k. unit (not (first.is_open && not (first.conn == k)) && (first.conn == conn))) same ∙ shut_same first.is_open (first.conn == conn) in
      record {
        on_open = omega (arith, rest.on_open, a, e);
        shut = omega (arith, rest.shut, b, c, d, f);
      }

  closing_other : (other ≡ conn → ⊥) → (parked : List Parked) → Closing false parked
  closing_other differs [] = record { on_open = refl; shut = refl }
  closing_other differs (first ∷ parked) =
      let rest = closing_other differs parked in
      let a = count_cons (waits_on conn) (closed_on other first) (map (closed_on other) parked) in
      let b = count_cons (was_on conn) (closed_on other first) (map (closed_on other) parked) in
      let c = count_cons (waits_on conn) first parked in
      let d = count_cons (was_on conn) first parked in
      let differ : (first.conn == conn) ≡ true → (first.conn == other) ≡ false
      = λ is. ne_eqb first.conn other (λ same. differs (sym same ∙ eqb-true first.conn conn is)) in
      let e = open_other first.is_open (first.conn == conn) (first.conn == other) differ in
      let f = shut_other first.is_open (first.conn == conn) (first.conn == other) differ in
      record {
        on_open = omega (arith, rest.on_open, a, c, e);
        shut = omega (arith, rest.shut, b, d, f);
      }

  closing_by : (b : Bool) → (other == conn) ≡ b → (parked : List Parked) → Closing b parked
  closing_by true is parked = closing_same (eqb-true other conn is) parked
  closing_by false is parked = closing_other (eqb-false other conn is) parked

  -- and of all sessions
  pub record AllClosing (closes : Bool) (live : List PlainLive) : Type 0 where
    pub on_open : waiting_in (waits_on conn) (map (with_closed other) live) ≡ (if closes then 0 else waiting_in (waits_on conn) live)
    pub shut : waiting_in (was_on conn) (map (with_closed other) live) ≡ (if closes then waiting_in (waits_on conn) live else 0) + waiting_in (was_on conn) live

  all_closing : (b : Bool) → (other == conn) ≡ b → (live : List PlainLive) → AllClosing b live
  all_closing true is [] = record { on_open = refl; shut = refl }
  all_closing false is [] = record { on_open = refl; shut = refl }
  all_closing true is (s ∷ live) =
      let one = closing_by true is s.parked in
      let rest = all_closing true is live in
      let a = w_cons (waits_on conn) (with_closed other s) (map (with_closed other) live) in
      let b = w_cons (was_on conn) (with_closed other s) (map (with_closed other) live) in
      let c = w_cons (waits_on conn) s live in
      let d = w_cons (was_on conn) s live in
      record { on_open = omega (arith, one.on_open, rest.on_open, a); shut = omega (arith, one.shut, rest.shut, b, c, d) }
  all_closing false is (s ∷ live) =
      let one = closing_by false is s.parked in
      let rest = all_closing false is live in
      let a = w_cons (waits_on conn) (with_closed other s) (map (with_closed other) live) in
      let b = w_cons (was_on conn) (with_closed other s) (map (with_closed other) live) in
      let c = w_cons (waits_on conn) s live in
      let d = w_cons (was_on conn) s live in
      record { on_open = omega (arith, one.on_open, rest.on_open, a, c); shut = omega (arith, one.shut, rest.shut, b, d) }

closed_rises : (other low : ℕ) (parked : List Parked) → Rise low parked → Rise low (map (closed_on other) parked)
closed_rises other low [] rises = tt
closed_rises other low (first ∷ parked) rises = (rises.0, closed_rises other first.ticket parked rises.1)

closed_well : (other : ℕ) (s : PlainLive) → Well s → Well (with_closed other s)
closed_well other s well = record {
  rise = closed_rises other 0 s.parked well.rise;
  out = All-map (IsOut (state s)) (closed_on other) s.parked (All-weaker (IsOut (state s)) (λ p. IsOut (state s) (closed_on other p)) (λ p out. out) s.parked well.out);
}

pub closed_fate : (conn : ℕ) (report : List ReportLine) (m : PlainManager) (other : ℕ) → All Well m.live → All (GoesOn report) m.live
    → ChangeFate conn m.live nothing 0 (if other == conn then waiting_in (waits_on conn) m.live else 0) [] [] (map (with_closed other) m.live)
closed_fate conn report m other well going = by (other == conn) refl
  where
    by : (b : Bool) → (other == conn) ≡ b → ChangeFate conn m.live nothing 0 (if b then waiting_in (waits_on conn) m.live else 0) [] [] (map (with_closed other) m.live)
    by true is =
        let all = all_closing conn other true is m.live in
        let r0 = r_none (waits_on conn) nothing m.live (λ k d within. refl) in
        let r1 = r_none (was_on conn) nothing m.live (λ k d within. refl) in
        record { on_open = omega (arith, all.on_open); gone = sym r0; shut = omega (arith, all.shut, r1); well = kept; ended = ons }
      where
        kept : All Well (map (with_closed other) m.live)
        kept = All-map Well (with_closed other) m.live (All-weaker Well (λ s. Well (with_closed other s)) (closed_well other) m.live well)

        ons : All Ended (map (with_closed other) m.live)
        ons = All-map Ended (with_closed other) m.live (All-weaker (GoesOn report) (λ s. Ended (with_closed other s)) (λ s g. ended_on (with_closed other s) g.up.goes_on) m.live going)
    by false is =
        let all = all_closing conn other false is m.live in
        let r0 = r_none (waits_on conn) nothing m.live (λ k d within. refl) in
        let r1 = r_none (was_on conn) nothing m.live (λ k d within. refl) in
        record { on_open = omega (arith, all.on_open); gone = sym r0; shut = omega (arith, all.shut, r1); well = kept; ended = ons }
      where
        kept : All Well (map (with_closed other) m.live)
        kept = All-map Well (with_closed other) m.live (All-weaker Well (λ s. Well (with_closed other s)) (closed_well other) m.live well)

        ons : All Ended (map (with_closed other) m.live)
        ons = All-map Ended (with_closed other) m.live (All-weaker (GoesOn report) (λ s. Ended (with_closed other s)) (λ s g. ended_on (with_closed other s) g.up.goes_on) m.live going)
