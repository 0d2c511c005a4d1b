-- Whatever a line does to a manager, each of its live sessions is there after it, and its journal goes on with what the line enters of it.
use Rattle.std.proofs.Common.{◌≡◌, ℕ, suc, ◌+◌, ◌==◌, ◌&&◌, Bool, true, false, List, [], ◌∷◌, ◌++◌, All, Option, Some, None, length, drop, take, map, refl, sym, subst, ◌∙◌, ap, arith, inl, inr, if◌then◌else◌}
use Rattle.std.specs.Prelude.{◌⊎◌, nat_lt, slice_get}
use Rattle.std.specs.List.{position}
use Rattle.std.proofs.lemmas.Bool.{eq-eqb}
use Rattle.std.proofs.lemmas.List.Elements.{All-nil, All-cons, All-append, All-weaker}
use Rattle.bosh_types.specs.Limits.{most_sessions, most_openings}
use Rattle.bosh_types.specs.declared.hosts.HostName.{HostName}
use Rattle.session_attrs.specs.declared.admission.Admitted.{Admitted}
use Rattle.session_attrs.specs.declared.admission.Admitted.TheVariants as admitted
use Rattle.session_attrs.specs.declared.request.Creation.{Creation}
use Rattle.session_attrs.specs.declared.request.Kind.{Kind}
use Rattle.session_attrs.specs.declared.request.Kind.TheVariants as kinds
use Rattle.session_attrs.specs.declared.request.Request.{Request}
use Rattle.session_attrs.specs.Admission.{admitted_of}
use Rattle.session_core.specs.Journal.{Arrive, Arrival, Entered, within_limit}
use Rattle.session_core.specs.State.{is_over}
use Rattle.session_laws.proofs.Lists.{get_some}
use Rattle.session_laws.proofs.Tests.{none_some, split}
use Rattle.script_text.specs.declared.event.Event.{Event}
use Rattle.script_text.specs.declared.event.Event.TheVariants.{Arrives, Passes}
use Rattle.script_text.specs.declared.report.ReportLine.{ReportLine}
use Rattle.script_text.specs.Entered.{GoesOnWith, IsOneOf, StandsWith, arrives_at}
use Rattle.script_text.specs.Live.{PlainLive, Turn, not_found, state, turn_at, if_live, if_over}
use Rattle.script_text.specs.Manager.{PlainManager, Change, admitted_to, at_host, closed, comes, comes_at, comes_to, number_of, only, opened_turn, opening_by, passed, passed_live, passed_over, place_of, posted, posted_as, posted_by, refused, request_in, turned_at, with_closed, with_opened}
use Rattle.script_text.specs.Posted.{is_number, named_of}
use Rattle.script_text.proofs.LaterLemmas.{turn_later}
use Rattle.script_text.proofs.OneOfLemmas.{all_ones, one_back, one_either, one_front, one_here, one_map}
use Rattle.script_text.proofs.OwnLemmas.{event_entry, turn_goes}
use Rattle.script_text.proofs.PositionLemmas.{none_there, some_within}
use Rattle.script_text.proofs.PostedLemmas.{number_at}
use Rattle.script_text.proofs.ReportLemmas.{Holds}
use Rattle.script_text.proofs.SessionsLemmas.{GoesOn, TellsAll, all_at, all_back, all_both, all_front, apart, place_splits, swapped}
use Rattle.script_text.proofs.TurnLemmas.{comes_turn}

-- each of these is one of those after the line, and goes on with its entry
abbrev pub AllStand : List PlainLive → List PlainLive → (PlainLive → Option Entered) → Type 0
AllStand live after entry = All (λ s. StandsWith after s (entry s)) live

-- the sessions after a change, those that ended with it first
abbrev pub sessions_in : Change → List PlainLive
sessions_in change = change.over ++ change.after.live

-- those of whom nothing is entered
same_stands : (live after : List PlainLive) (entry : PlainLive → Option Entered) → All (λ s. entry s ≡ None) live → All (λ s. IsOneOf s after) live → AllStand live after entry
same_stands live after entry none ones = all_both (λ s. entry s ≡ None) (λ s. IsOneOf s after) (λ s. StandsWith after s (entry s))
    (λ s is one. subst (StandsWith after s) (sym is) (s, one, refl, refl)) live none ones

pub all_same : (live : List PlainLive) → AllStand live live (λ s. None)
all_same live = All-weaker (λ s. IsOneOf s live) (λ s. StandsWith live s None) (λ s one. (s, one, refl, refl)) live (all_ones live)

-- one that has a turn
pub if_one : (s : PlainLive) → IsOneOf s (if_over s) ⊎ IsOneOf s (if_live s)
if_one s = by (is_over (state s))
  where
    by : (b : Bool) → IsOneOf s (if b then s ∷ [] else []) ⊎ IsOneOf s (if b then [] else s ∷ [])
    by true = inl (one_here s [])
    by false = inr (one_here s [])

turn_stands : (s : PlainLive) → is_over (state s) ≡ false → (now : ℕ) (event : Event) (after : List PlainLive) → IsOneOf (turn_at now event s).after after
    → StandsWith after s (event_entry now event s)
turn_stands s on now event after one = ((turn_at now event s).after, one, (turn_later now event s).number, turn_goes s on now event)

-- Time.

passed_ones : (now : ℕ) (live : List PlainLive) → All (λ s. IsOneOf (turn_at now Passes s).after (passed_over now live) ⊎ IsOneOf (turn_at now Passes s).after (passed_live now live)) live
passed_ones now [] = All-nil (λ s. IsOneOf (turn_at now Passes s).after (passed_over now []) ⊎ IsOneOf (turn_at now Passes s).after (passed_live now []))
passed_ones now (s ∷ live) =
    let t : PlainLive = (turn_at now Passes s).after in
    All-cons (λ x. IsOneOf (turn_at now Passes x).after (passed_over now (s ∷ live)) ⊎ IsOneOf (turn_at now Passes x).after (passed_live now (s ∷ live))) s live
    (elim (if_one t) [
      | inl over ↦ inl (one_front t (if_over t) (passed_over now live) over)
      | inr on ↦ inr (one_front t (if_live t) (passed_live now live) on)
    ])
    (All-weaker (λ x. IsOneOf (turn_at now Passes x).after (passed_over now live) ⊎ IsOneOf (turn_at now Passes x).after (passed_live now live))
    (λ x. IsOneOf (turn_at now Passes x).after (passed_over now (s ∷ live)) ⊎ IsOneOf (turn_at now Passes x).after (passed_live now (s ∷ live)))
    (λ x one. elim one [
      | inl over ↦ inl (one_back (turn_at now Passes x).after (if_over t) (passed_over now live) over)
      | inr on ↦ inr (one_back (turn_at now Passes x).after (if_live t) (passed_live now live) on)
    ]) live (passed_ones now live))

-- Connections.

pub closed_stands : (m : PlainManager) (conn : ℕ) → AllStand m.live (sessions_in (closed m conn)) (λ s. None)
closed_stands m conn = All-weaker (λ s. IsOneOf s m.live) (λ s. StandsWith (map (with_closed conn) m.live) s None)
    (λ s one. (with_closed conn s, one_map (with_closed conn) s m.live one, refl, refl)) m.live (all_ones m.live)

module _ (report : List ReportLine) (over : List PlainLive) (m : PlainManager) (holds : Holds report over m) where
  pub passed_stands : (now : ℕ) → AllStand m.live (sessions_in (passed m now)) (event_entry now Passes)
  passed_stands now = all_both (GoesOn report)
      (λ s. IsOneOf (turn_at now Passes s).after (passed_over now m.live) ⊎ IsOneOf (turn_at now Passes s).after (passed_live now m.live))
      (λ s. StandsWith (passed_over now m.live ++ passed_live now m.live) s (event_entry now Passes s))
      (λ s g one. turn_stands s g.up.goes_on now Passes (passed_over now m.live ++ passed_live now m.live)
      (one_either (turn_at now Passes s).after (passed_over now m.live) (passed_live now m.live) one)) m.live holds.tells.going (passed_ones now m.live)

  -- Something comes to the session with this number.
  module _ (event : Event) (otherwise : ReportLine) (number : ℕ) where
    abbrev entry_of : PlainLive → Option Entered
    entry_of s = if is_number s.number (Some number) then event_entry m.moment event s else None

    apart_entry : (s : PlainLive) → (s.number == number) ≡ false → entry_of s ≡ None
    apart_entry s other = ap (λ b. if b then event_entry m.moment event s else None) (swapped s.number number other)

    turned_stands : (place : ℕ) (s : PlainLive) → slice_get m.live place ≡ Some s → s.number ≡ number
        → AllStand m.live (sessions_in (turned_at m place (turn_at m.moment event s))) entry_of
    turned_stands place s is same =
        let turn : Turn = turn_at m.moment event s in
        let t : PlainLive = turn.after in
        let front : List PlainLive = take place m.live in
        let back : List PlainLive = drop (suc place) m.live in
        let next : suc place ≡ place + 1 = omega arith in
        let after : List PlainLive = if_over t ++ (front ++ (if_live t ++ back)) in
        let splits : m.live ≡ front ++ s ∷ back = place_splits m.live place s is in
        let tells = subst (λ l. TellsAll report over l m.opened) splits holds.tells in
        let up = (all_at (GoesOn report) m.live place s is holds.tells.going).up in
        let differ : All (λ x. (x.number == s.number) ≡ false) (front ++ back) = apart report over front back s (turn_at m.moment Passes s) m.opened tells (comes_turn s m.moment Passes up tt) in
        let none = All-weaker (λ (x : PlainLive). (x.number == s.number) ≡ false) (λ x. entry_of x ≡ None)
        (λ x other. apart_entry x (subst (λ n. (x.number == n) ≡ false) same other)) (front ++ back) differ in
        let own : entry_of s ≡ event_entry m.moment event s = ap (λ b. if b then event_entry m.moment event s else None) (eq-eqb number s.number (sym same)) in
        let here = subst (StandsWith after s) (sym own) (turn_stands s up.goes_on m.moment event after (elim (if_one t) [
          | inl ended ↦ one_front t (if_over t) (front ++ (if_live t ++ back)) ended
          | inr on ↦ one_back t (if_over t) (front ++ (if_live t ++ back)) (one_back t front (if_live t ++ back) (one_front t (if_live t) back on))
        ])) in
        let before = same_stands front after entry_of (all_front (λ x. entry_of x ≡ None) front back none)
        (All-weaker (λ x. IsOneOf x front) (λ x. IsOneOf x after) (λ x one. one_back x (if_over t) (front ++ (if_live t ++ back)) (one_front x front (if_live t ++ back) one)) front (all_ones front)) in
        let behind = same_stands back after entry_of (all_back (λ x. entry_of x ≡ None) front back none)
        (All-weaker (λ x. IsOneOf x back) (λ x. IsOneOf x after)
        (λ x one. one_back x (if_over t) (front ++ (if_live t ++ back)) (one_back x front (if_live t ++ back) (one_back x (if_live t) back one))) back (all_ones back)) in
        subst (λ n. AllStand m.live (if_over t ++ (front ++ (if_live t ++ drop n m.live))) entry_of) next
        (subst (λ l. AllStand l after entry_of) (sym splits)
        (All-append (λ x. StandsWith after x (entry_of x)) front (s ∷ back) before (All-cons (λ x. StandsWith after x (entry_of x)) s back here behind)))

    pub comes_stands : AllStand m.live (sessions_in (comes m event otherwise number)) entry_of
    comes_stands = by (place_of m number) refl
      where
        at : (place : ℕ) → place_of m number ≡ Some place → (o : Option PlainLive) → slice_get m.live place ≡ o → AllStand m.live (sessions_in (comes_at m event otherwise place o)) entry_of
        at place there None is =
            let some = get_some m.live place (some_within (λ s. s.number == number) m.live place there) in
            absurd (none_some (slice_get m.live place) some.0 is some.1)
        at place there (Some s) is = turned_stands place s is (number_at number m.live place s there is)

        by : (o : Option ℕ) → place_of m number ≡ o
            → AllStand m.live (sessions_in (elim o as (λ x. Change) [ None ↦ only m otherwise | Some place ↦ comes_at m event otherwise place (slice_get m.live place) ])) entry_of
        by None is = same_stands m.live m.live entry_of
            (All-weaker (λ (s : PlainLive). (s.number == number) ≡ false) (λ s. entry_of s ≡ None) apart_entry m.live (none_there (λ (s : PlainLive). s.number == number) m.live is)) (all_ones m.live)
        by (Some place) is = at place is (slice_get m.live place) refl

  -- A body.
  module _ (conn : ℕ) (body : List ℕ) where
    module _ (request : Request) where
      opened_stands : (turn : Turn) (number : ℕ) → AllStand m.live (sessions_in (with_opened m number turn)) (λ s. None)
      opened_stands turn number = All-weaker (λ s. IsOneOf s m.live) (λ s. StandsWith (if_over turn.after ++ (m.live ++ if_live turn.after)) s None)
          (λ s one. (s, one_back s (if_over turn.after) (m.live ++ if_live turn.after) (one_front s m.live (if_live turn.after) one), refl, refl)) m.live (all_ones m.live)

      host_stands : (creation : Creation) (o : Option HostName) → AllStand m.live (sessions_in (at_host m conn body request creation o)) (λ s. None)
      host_stands creation None = all_same m.live
      host_stands creation (Some host) = split (λ change. AllStand m.live (sessions_in change) (λ s. None)) (nat_lt (length m.live) most_sessions && nat_lt m.opened most_openings) _ _
          (λ room. opened_stands (opened_turn (m.opened + 1) conn (opening_by host (m.opened + 1) body request creation m.moment)) (m.opened + 1))
          (λ full. all_same m.live)

      admitted_stands : (creation : Creation) (to : Admitted) → AllStand m.live (sessions_in (admitted_to m conn body request creation to)) (λ s. None)
      admitted_stands creation admitted.Improper = all_same m.live
      admitted_stands creation admitted.Unknown = all_same m.live
      admitted_stands creation (admitted.Host place) = host_stands creation (slice_get m.hosts place)

      abbrev entry_for : Option ℕ → PlainLive → Option Entered
      entry_for number s = if is_number s.number number then Some (within_limit (state s) Arrival m.moment (Arrive request body m.moment)) else None

      to_stands : (number : Option ℕ) → AllStand m.live (sessions_in (comes_to m conn body request number)) (entry_for number)
      to_stands None = all_same m.live
      to_stands (Some number) = comes_stands (Arrives conn request body) (not_found conn) number

      kind_stands : (kind : Kind) → AllStand m.live (sessions_in (posted_by m conn body request kind)) (entry_for (named_of kind))
      kind_stands (kinds.Later sid) = to_stands (number_of sid)
      kind_stands (kinds.Creation creation) = admitted_stands creation (admitted_of request.to m.hosts)

    as_stands : (o : Option Request) → AllStand m.live (sessions_in (posted_as m conn body o)) (λ s. arrives_at m.moment body s o)
    as_stands None = all_same m.live
    as_stands (Some request) = kind_stands request request.kind

    pub posted_stands : AllStand m.live (sessions_in (posted m conn body)) (λ s. arrives_at m.moment body s (request_in body))
    posted_stands = as_stands (request_in body)
