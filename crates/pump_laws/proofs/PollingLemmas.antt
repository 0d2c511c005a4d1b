-- A host is polled, and what of one number is kept by it.
use Rattle.std.proofs.Common.{◌≡◌, ◌≢◌, ◌⊎◌, ◌/◌, ◌%◌, ◌+◌, ◌*◌, ◌<◌, ℕ, Bool, true, false, cond, List, [], ◌∷◌, ◌++◌, length, set, Option, Some, None, IfSome, Result, Ok, Err, refl, sym, ◌∙◌, ap, subst, inl, inr, append-nil, arith, eqb-true, eq-eqb, ne_eqb, true≢false}
use Rattle.std.specs.Prelude.{⊤, ◌&&◌, ◌==◌, is_some, option_to_list, slice_get}
use Rattle.std.specs.List.{list_any}
use Rattle.std.proofs.lemmas.Bool.Decides.{eqb_tells}
use Rattle.std.specs.declared.alloc.AllocError.{AllocError}
use Rattle.bosh_types.specs.Limits.{most_streams}
use Rattle.parked_gate.specs.Histories.{StartsWith}
use Rattle.parked_gate.specs.Passes.{Known, known}
use Rattle.session_journal.specs.declared.entry.Entry as journal
use Rattle.session_table.specs.declared.entry.Entry.{Entry}
use Rattle.session_table.specs.declared.handle.SessionHandle.{SessionHandle}
use Rattle.session_table.specs.Purses.{Sessions, OthersStay, Turned, held}
use Rattle.xmpp_backend.specs.Told.{Becomes, Told, given_too, held_too, on_wire}
use Rattle.session_pump.specs.Ends.{End, Ends, answering, idling, telling}
use Rattle.session_pump.specs.Giving.{ComesFirst, IsHere, GiveMove, GiveMoves, GivesTimes, HostSide, PollGave, PollsHost, RunsDry, again, asks, at_host, does_nothing, fails, finds_nothing, gave_much, gives, had_no_room, had_nothing, had_one_before, has_failed, is_held, is_open_here, is_opened_at, is_opened_on, is_refused, lets_go, more, moves, never, none, owes_on, polls, ran_dry, wants_memory}
use Rattle.session_pump.specs.Hosts.{HostFacts}
use Rattle.session_pump.specs.Pumping.{LineTurns, Lines, Pumping, line_of}
use Rattle.bosh_types.specs.declared.inward.Inward.{Inward}
use Rattle.session_pump.specs.Sides.{LineFacts, is_met, line_facts, with_side}
use Rattle.session_pump.specs.Taking.{FindsNoRoom, OnceReady, Refuses, Takes}
use Rattle.session_pump.specs.Turns.{PollsAt}
use Rattle.session_pump.specs.declared.line.Line.{Line}
use Rattle.session_pump.specs.declared.line.Owing.{Owing}
use Rattle.session_pump.specs.declared.line.Side.{Side}
use Rattle.session_pump.specs.declared.line.Stage.{Stage}
use Rattle.session_pump.specs.declared.line.Stage.TheVariants as stages
use Rattle.pump_laws.specs.CallsMade.{CallMade, MadeBy, carried, handed, taken}
use Rattle.pump_laws.specs.Handing.{GaveOf, IsIdle, KeepsNone, ToldFor, gave_nothing, gave_these, is_of, stanza_in, stanzas_kept, stanzas_owed, told_by, told_for, told_in_turn}
use Rattle.pump_laws.specs.InTurn.{Every}
use Rattle.pump_laws.specs.Passing.{CanFail, PassedOf}
use Rattle.pump_laws.proofs.BenchLemmas.{Drifts, became_still, drifts_few, drifts_nothing, drifts_on, drifts_passed, every_last, failed_drifts, no_drift, stays, tells_still}
use Rattle.pump_laws.proofs.CallLemmas.{Brings, Carries, Hands, brings_once, brings_taken, carries_asked, carries_no_room, carries_once, carries_refuses, carries_tried, given_on_other, given_on_this, hands_on, hands_other, on_stream}
use Rattle.pump_laws.proofs.GaveLemmas.{became_told, failed_told, front, gave_as, gave_more, given_elsewhere, isnt_idle, kept_for, kept_for_other, kept_opened, rear, stands_told, told_split}
use Rattle.pump_laws.proofs.KeepsLemmas.{AllLeave, Good, HostTurn, Hosted, IdleAt, IsProper, IsProperSide, IsUnmet, Keeps, Leaves, LineKeeps, NoneAt, NothingPassed, NotMet, SideKeeps, WasBegun, any_at, got_other, got_put, host_at, host_turned, is_gone, keeps_left, keeps_turned, leaves_same, none_left, none_some, same_of, same_or_apart, side_calls, side_left, some_same, turn_leaves, unmet, unmet_calls, unmet_left, was_met}
use Rattle.pump_laws.proofs.NumberLemmas.{IsOpening}
use Rattle.pump_laws.proofs.SessionLemmas.{WasOf, is_met_put, put_proper, unmet_apart, was_of}
use Rattle.pump_laws.proofs.SideLemmas.{OwesOwn, and_first, and_last, its_kept, of_another, of_another_stream, of_both, streams_apart, wire_of}

-- ---- one host, beside the others

abbrev with_host : ℕ → HostFacts → Hosted → Hosted
with_host place host others q = cond (q == place) (Some host) (others q)

with_host_there : (place : ℕ) (host : HostFacts) (others : Hosted) → with_host place host others place ≡ Some host
with_host_there place host others = by (eqb_tells place place)
  where
    by : (((place == place) ≡ true) × (place ≡ place)) ⊎ (((place == place) ≡ false) × (place ≢ place)) → cond (place == place) (Some host) (others place) ≡ Some host
    by (inl same) = ap (λ b. cond b (Some host) (others place)) same.0
    by (inr apart) = absurd (apart.1 refl)

with_host_away : (place : ℕ) (host : HostFacts) (others : Hosted) (q : ℕ) → q ≢ place → with_host place host others q ≡ others q
with_host_away place host others q apart = ap (λ b. cond b (Some host) (others q)) (ne_eqb q place apart)

-- the host as it is in the middle of polls
abbrev host_of : HostSide → HostFacts
host_of h = record { kept = h.kept; ends = h.ends }

-- a host that keeps something else, with the same for this wire
gave_kept : (n : ℕ) (all : List (List ℕ)) (stage : Stage) (owed kept keeps : Option Owing) (told : List (Option ToldFor)) → stanzas_kept n kept ≡ stanzas_kept n keeps
    → (KeepsNone n kept → KeepsNone n keeps) → GaveOf n all stage owed kept told → GaveOf n all stage owed keeps told
gave_kept n all stage owed kept keeps told same so (gave_nothing unopened idle empty owes nobody) = gave_nothing unopened idle empty owes (so nobody)
gave_kept n all stage owed kept keeps told same so (gave_these opened one) =
    gave_as n all all stage stage owed owed kept keeps told opened (ap (λ xs. all ++ (stanzas_owed owed ++ xs)) same) opened (gave_these opened one)

-- whether what is kept is of a wire
of_or_not : (wire : ℕ) (owing : Owing) → (is_of wire owing ≡ true) ⊎ (is_of wire owing ≡ false)
of_or_not wire owing = by (is_of wire owing) refl
  where
    by : (b : Bool) → is_of wire owing ≡ b → (is_of wire owing ≡ true) ⊎ (is_of wire owing ≡ false)
    by true is = inl is
    by false is = inr is

-- where a poll gave it, that is the wire on which it gave it
polled_on : (wire w : ℕ) (owing : Owing) → owing.number ≡ w / most_streams → owing.stream ≡ w % most_streams → is_of wire owing ≡ true → w ≡ wire
polled_on wire w owing number stream is =
    let upper : owing.number ≡ wire / most_streams =
    eqb-true owing.number (wire / most_streams) (and_first (owing.number == wire / most_streams) (owing.stream == wire % most_streams) is) in
    let lower : owing.stream ≡ wire % most_streams =
    eqb-true owing.stream (wire % most_streams) (and_last (owing.number == wire / most_streams) (owing.stream == wire % most_streams) is) in
    same_wire (sym number ∙ upper) (sym stream ∙ lower)
  where
    same_wire : w / most_streams ≡ wire / most_streams → w % most_streams ≡ wire % most_streams → w ≡ wire
    same_wire above below = omega (arith, above, below)

polled_apart : (wire w : ℕ) (owing : Owing) → owing.number ≡ w / most_streams → owing.stream ≡ w % most_streams → is_of wire owing ≡ false → w ≢ wire
polled_apart wire w owing number stream isnt same =
    true≢false (sym (both (owing.number == wire / most_streams) (owing.stream == wire % most_streams)
    (eq-eqb owing.number (wire / most_streams) (number ∙ ap (λ k. k / most_streams) same)) (eq-eqb owing.stream (wire % most_streams) (stream ∙ ap (λ k. k % most_streams) same))) ∙ isnt)
  where
    both : (a b : Bool) → a ≡ true → b ≡ true → (a && b) ≡ true
    both true b is also = also
    both false b is also = absurd (true≢false (sym is))

-- the wire of something that is kept for this session is that of its stream
of_own : (n q : ℕ) (owing : Owing) → q < most_streams → is_of (wire_of n q) owing ≡ true → (owing.number ≡ n) × (owing.stream ≡ q)
of_own n q owing small is = (at_number (same_or_apart owing.number n), at_stream (same_or_apart owing.stream q))
  where
    at_number : (owing.number ≡ n) ⊎ (owing.number ≢ n) → owing.number ≡ n
    at_number (inl same) = same
    at_number (inr apart) = absurd (true≢false (sym is ∙ of_another n q owing small apart))

    at_stream : (owing.stream ≡ q) ⊎ (owing.stream ≢ q) → owing.stream ≡ q
    at_stream (inl same) = same
    at_stream (inr apart) = absurd (true≢false (sym is ∙ of_another_stream n q owing small apart))

module _ (B G : Type 0) (n : ℕ) (moment : Option ℕ) (place : ℕ) (others : Hosted) (seen : List Entry) where
  -- what is kept while the host at this place is polled
  record HostKeeps (h : HostSide) : Type 0 where
    hosted : Hosted
    here : h.place ≡ place
    at : hosted place ≡ Some (host_of h)
    away : (q : ℕ) → q ≢ place → hosted q ≡ others q
    keeps : Keeps B G n (held h.sessions n) (line_of h.lines n) hosted seen
    proper : (m : ℕ) (line : Line) → line_of h.lines m ≡ Some line → IsProper m (line_facts line)

  turn_to : (h i : HostSide) (k : HostKeeps h) → HostTurn place (host_of h) (host_of i) k.hosted (with_host place (host_of i) others)
  turn_to h i k = record {
    was = k.at;
    is = with_host_there place (host_of i) others;
    others = λ q apart. with_host_away place (host_of i) others q apart ∙ sym (k.away q apart);
  }

  -- of the wires of this number nothing changes
  left : (h i : HostSide) → ((q : ℕ) → q < most_streams → Leaves B (wire_of n q) (host_of h) (host_of i)) → i.place ≡ h.place → i.sessions ≡ h.sessions → i.lines ≡ h.lines → HostKeeps h → HostKeeps i
  left h i leaves stands sessions lines k = record {
    hosted = with_host place (host_of i) others;
    here = stands ∙ k.here;
    at = with_host_there place (host_of i) others;
    away = λ q apart. with_host_away place (host_of i) others q apart;
    keeps = subst (λ l. Keeps B G n (held i.sessions n) (line_of l n) (with_host place (host_of i) others) seen) (sym lines)
        (subst (λ s. Keeps B G n (held s n) (line_of h.lines n) (with_host place (host_of i) others) seen) (sym sessions)
        (keeps_left n (held h.sessions n) (line_of h.lines n) k.hosted (with_host place (host_of i) others) seen (λ line is. k.proper n line is)
        (λ q small. turn_leaves B (wire_of n q) place (host_of h) (host_of i) k.hosted (with_host place (host_of i) others) (turn_to h i k) (leaves q small)) k.keeps));
    proper = subst (λ l. (m : ℕ) (line : Line) → line_of l m ≡ Some line → IsProper m (line_facts line)) (sym lines) k.proper;
  }

  -- it tells the same of this wire
  tells_same : (w : ℕ) (h i : HostSide) → Drifts w h.ends i.ends → told_in_turn w i.ends ≡ told_in_turn w h.ends → stanzas_kept w h.kept ≡ stanzas_kept w i.kept
      → (KeepsNone w h.kept → KeepsNone w i.kept) → Leaves B w (host_of h) (host_of i)
  tells_same w h i drifts told same so = record {
    drifts = drifts;
    idle = λ b idle. record { idle = subst (Every IsIdle) (sym told) idle.idle; none = so idle.none };
    gives = λ all stage owed b gave. subst (GaveOf w all stage owed i.kept) (sym told) (gave_kept w all stage owed h.kept i.kept (told_in_turn w h.ends) same so gave);
  }

  drifted : (h i : HostSide) → ((w : ℕ) → Drifts w h.ends i.ends) → ((w : ℕ) → told_in_turn w i.ends ≡ told_in_turn w h.ends) → i.kept ≡ h.kept → i.place ≡ h.place → i.sessions ≡ h.sessions → i.lines ≡ h.lines
      → HostKeeps h → HostKeeps i
  drifted h i drifts told kept stands sessions lines k =
      left h i (λ q small. tells_same (wire_of n q) h i (drifts (wire_of n q)) (told (wire_of n q)) (ap (stanzas_kept (wire_of n q)) (sym kept)) (λ none. subst (KeepsNone (wire_of n q)) (sym kept) none))
      stands sessions lines k

  turned : (h i : HostSide) (m : ℕ) (Says : Known journal.Entry → Known journal.Entry → Type 0) → ((k l : Known journal.Entry) → Says k l → Carries k l)
      → i.ends ≡ h.ends → i.kept ≡ h.kept → i.lines ≡ h.lines → i.place ≡ h.place → Turned m h.sessions i.sessions Says → OthersStay m h.sessions i.sessions → HostKeeps h → HostKeeps i
  turned h i m Says carries ends kept lines stands t stay k = record {
    hosted = k.hosted;
    here = stands ∙ k.here;
    at = k.at ∙ (ap (λ e. Some (record { kept = h.kept; ends = e })) (sym ends) ∙ ap (λ o. Some (record { kept = o; ends = i.ends })) (sym kept));
    away = k.away;
    keeps = subst (λ l. Keeps B G n (held i.sessions n) (line_of l n) k.hosted seen) (sym lines)
        (keeps_turned n m h.sessions i.sessions Says carries t stay (line_of h.lines n) k.hosted seen k.keeps);
    proper = subst (λ l. (m : ℕ) (line : Line) → line_of l m ≡ Some line → IsProper m (line_facts line)) (sym lines) k.proper;
  }

  still : (w : ℕ) (h : HostSide) (standing : End) (change : Told → Told) → ((t : Told) → told_by w (change t) ≡ told_by w t) → Becomes h.ends.standing.told standing.told change
      → told_in_turn w (record h.ends { standing = standing }) ≡ told_in_turn w h.ends
  still w h standing change same is = stands_told w h.ends standing (became_told w h.ends.standing.told standing.told change same is)

  poll_gave : (h i : HostSide) → PollGave h i → HostKeeps h → HostKeeps i
  poll_gave h i p k = subst HostKeeps (sym p.is) (left h after (λ q small. leaves (wire_of n q)) refl refl refl k)
    where
      after : HostSide
      after = record h { kept = Some p.owing; ends = answering p.told h.ends }

      drifts : (w : ℕ) → Drifts w h.ends after.ends
      drifts w = drifts_on no_drift (stays _ (became_still w h.ends.standing.told p.told (given_too p.wire p.owing.given) (λ t. refl) p.given))

      by : (w : ℕ) → (is_of w p.owing ≡ true) ⊎ (is_of w p.owing ≡ false) → Leaves B w (host_of h) (host_of after)
      by w (inl is) =
          let here : p.wire ≡ w = polled_on w p.wire p.owing p.number p.stream is in
          record {
            drifts = drifts w;
            idle = λ b idle. absurd (isnt_idle w p.wire h.ends.standing here p.opened
                (every_last IsIdle (front w h.ends) (told_for w h.ends.standing ∷ rear w h.ends) (subst (Every IsIdle) (told_split w h.ends h.ends.standing) idle.idle)).0);
            gives = λ all stage owed b gave. gave_more w p.wire p.owing.given all stage owed p.owing h.ends after.ends.standing here p.opened p.given is refl
                (subst (λ o. GaveOf w all stage owed o (told_in_turn w h.ends)) p.empty gave);
          }
      by w (inr isnt) =
          tells_same w h after (drifts w)
          (still w h after.ends.standing (given_too p.wire p.owing.given)
          (λ (t : Told). given_elsewhere w p.wire p.owing.given t (polled_apart w p.wire p.owing p.number p.stream isnt)) p.given)
          (ap (stanzas_kept w) p.empty ∙ sym (kept_for_other w p.owing isnt)) (λ none. isnt)

      leaves : (w : ℕ) → Leaves B w (host_of h) (host_of after)
      leaves w = by w (of_or_not w p.owing)

  same_of_wire : (w : ℕ) (owing later : Owing) → later.number ≡ owing.number → later.stream ≡ owing.stream → is_of w later ≡ is_of w owing
  same_of_wire w owing later number stream =
      ap (λ m. (m == w / most_streams) && (later.stream == w % most_streams)) number
      ∙ ap (λ q. (owing.number == w / most_streams) && (q == w % most_streams)) stream

  same_kept : (w : ℕ) (owing later : Owing) → later.number ≡ owing.number → later.stream ≡ owing.stream → later.given ≡ owing.given → stanzas_kept w (Some owing) ≡ stanzas_kept w (Some later)
  same_kept w owing later number stream given =
      ap (λ b. cond b (option_to_list (stanza_in owing.given)) []) (sym (same_of_wire w owing later number stream))
      ∙ ap (λ g. cond (is_of w later) (option_to_list (stanza_in g)) []) (sym given)

  -- what is kept is kept on, as something that was refused
  kept_on : (h i : HostSide) (owing later : Owing) → i.ends ≡ h.ends → h.kept ≡ Some owing → i.kept ≡ Some later → later.number ≡ owing.number → later.stream ≡ owing.stream → later.given ≡ owing.given
      → i.place ≡ h.place → i.sessions ≡ h.sessions → i.lines ≡ h.lines → HostKeeps h → HostKeeps i
  kept_on h i owing later ends kept keeps number stream given stands sessions lines k =
      left h i (λ q small. by (wire_of n q)) stands sessions lines k
    where
      by : (w : ℕ) → Leaves B w (host_of h) (host_of i)
      by w = tells_same w h i (subst (Drifts w h.ends) (sym ends) no_drift) (ap (told_in_turn w) ends)
          (ap (stanzas_kept w) kept ∙ (same_kept w owing later number stream given ∙ ap (stanzas_kept w) (sym keeps)))
          (λ none. subst (KeepsNone w) (sym keeps) (same_of_wire w owing later number stream ∙ subst (KeepsNone w) kept none))

  -- something that is kept for another session is so no longer
  let_go : (h i : HostSide) (owing : Owing) → owing.number ≢ n → ((w : ℕ) → Drifts w h.ends i.ends) → ((w : ℕ) → told_in_turn w i.ends ≡ told_in_turn w h.ends) → h.kept ≡ Some owing → i.kept ≡ None
      → i.place ≡ h.place → i.sessions ≡ h.sessions → i.lines ≡ h.lines → HostKeeps h → HostKeeps i
  let_go h i owing apart drifts told kept empty stands sessions lines k =
      left h i (λ q small. by (wire_of n q) (of_another n q owing small apart)) stands sessions lines k
    where
      by : (w : ℕ) → is_of w owing ≡ false → Leaves B w (host_of h) (host_of i)
      by w isnt = tells_same w h i (drifts w) (told w) (ap (stanzas_kept w) kept ∙ (kept_for_other w owing isnt ∙ ap (stanzas_kept w) (sym empty)))
          (λ none. subst (KeepsNone w) (sym empty) tt)

  refused_on : (h : HostSide) (owing later : Owing) (sessions : Sessions) (Says : Known journal.Entry → Known journal.Entry → Type 0) → ((k l : Known journal.Entry) → Says k l → Carries k l)
      → h.kept ≡ Some owing → later.number ≡ owing.number → later.stream ≡ owing.stream → later.given ≡ owing.given → Turned owing.number h.sessions sessions Says → OthersStay owing.number h.sessions sessions
      → HostKeeps h → HostKeeps (record h { kept = Some later; sessions = sessions })
  refused_on h owing later sessions Says carries kept number stream given t stay k =
      kept_on (record h { sessions = sessions }) (record h { kept = Some later; sessions = sessions }) owing later refl kept refl number stream given refl refl refl
      (turned h (record h { sessions = sessions }) owing.number Says carries refl refl refl refl t stay k)

  -- ---- what is kept is given, or is kept with the side of its stream

  module _ (h : HostSide) (owing : Owing) (ends : Ends) (kept : h.kept ≡ Some owing) (drifts : (w : ℕ) → Drifts w h.ends ends)
      (told : (w : ℕ) → told_in_turn w ends ≡ told_in_turn w h.ends) (k : HostKeeps h) where
    turns : HostTurn place (host_of h) (record { kept = None; ends = ends }) k.hosted (with_host place (record { kept = None; ends = ends }) others)
    turns = record {
      was = k.at;
      is = with_host_there place (record { kept = None; ends = ends }) others;
      others = λ q apart. with_host_away place (record { kept = None; ends = ends }) others q apart ∙ sym (k.away q apart);
    }

    -- for a wire that it isn't of
    emptied_leaves : (w : ℕ) → is_of w owing ≡ false → AllLeave B w k.hosted (with_host place (record { kept = None; ends = ends }) others)
    emptied_leaves w isnt = turn_leaves B w place (host_of h) (record { kept = None; ends = ends }) k.hosted (with_host place (record { kept = None; ends = ends }) others) turns (record {
      drifts = drifts w;
      idle = λ b idle. record { idle = subst (Every IsIdle) (sym (told w)) idle.idle; none = tt };
      gives = λ all stage owed b gave. subst (GaveOf w all stage owed None) (sym (told w))
          (gave_kept w all stage owed h.kept None (told_in_turn w h.ends) (ap (stanzas_kept w) kept ∙ kept_for_other w owing isnt) (λ none. tt) gave);
    })

    not_kept : {X : Type 0} (w : ℕ) → is_of w owing ≡ true → IdleAt w (host_of h) → X
    not_kept w is idle = absurd (true≢false (sym is ∙ subst (KeepsNone w) kept idle.none))

    its : (q : ℕ) (host : HostFacts) → q ≡ place → with_host place (record { kept = None; ends = ends }) others q ≡ Some host → record { kept = None; ends = ends } ≡ host
    its q host same is = same_of (with_host place (record { kept = None; ends = ends }) others place) (record { kept = None; ends = ends }) host turns.is
        (ap (with_host place (record { kept = None; ends = ends }) others) (sym same) ∙ is)

    -- on a wire on which nothing was given nothing is kept
    none_emptied : (w q : ℕ) (host : HostFacts) → with_host place (record { kept = None; ends = ends }) others q ≡ Some host
        → ((x : HostFacts) → k.hosted q ≡ Some x → NoneAt B w x) → NoneAt B w host
    none_emptied w q host is was = by (same_or_apart q place)
      where
        by : (q ≡ place) ⊎ (q ≢ place) → NoneAt B w host
        by (inl same) =
            let r : NoneAt B w (host_of h) = was (host_of h) (ap k.hosted same ∙ k.at) in
            subst (NoneAt B w) (its q host same is) (record {
              passed = drifts_nothing w h.ends ends (drifts w) r.passed;
              given = λ b. record { idle = subst (Every IsIdle) (sym (told w)) (r.given b).idle; none = tt };
            })
        by (inr apart) = was host (sym (turns.others q apart) ∙ is)

    passed_emptied : (w : ℕ) (all keeps : List Inward) (stage : Stage) (q : ℕ) (host : HostFacts) → with_host place (record { kept = None; ends = ends }) others q ≡ Some host → CanFail host.ends
        → ((x : HostFacts) → k.hosted q ≡ Some x → CanFail x.ends → PassedOf w all stage keeps x.ends) → PassedOf w all stage keeps host.ends
    passed_emptied w all keeps stage q host is few was = by (same_or_apart q place)
      where
        by : (q ≡ place) ⊎ (q ≢ place) → PassedOf w all stage keeps host.ends
        by (inl same) =
            let it : record { kept = None; ends = ends } ≡ host = its q host same is in
            let few_of : CanFail ends = subst (λ (x : HostFacts). CanFail x.ends) (sym it) few in
            subst (λ (x : HostFacts). PassedOf w all stage keeps x.ends) it
            (drifts_passed w all stage keeps h.ends ends (drifts w) few_of (was (host_of h) (ap k.hosted same ∙ k.at) (drifts_few w h.ends ends (drifts w) few_of)))
        by (inr apart) = was host (sym (turns.others q apart) ∙ is) few

    -- where it is of a wire, its side is one at this host
    given_emptied : (made : List CallMade) (item : Option Inward) (x : Side) (all : List (List ℕ)) (owed : Option Owing) → is_of x.wire owing ≡ true → SideKeeps B k.hosted made item x
        → (GaveOf x.wire (handed x.stream made) x.stage x.owed (Some owing) (told_in_turn x.wire h.ends) → GaveOf x.wire all x.stage owed None (told_in_turn x.wire h.ends))
        → (q : ℕ) (host : HostFacts) → with_host place (record { kept = None; ends = ends }) others q ≡ Some host → x.host ≡ Some q → B
        → GaveOf x.wire all x.stage owed host.kept (told_in_turn x.wire host.ends)
    given_emptied made item x all owed is o so q host got at b = by (same_or_apart q place)
      where
        by : (q ≡ place) ⊎ (q ≢ place) → GaveOf x.wire all x.stage owed host.kept (told_in_turn x.wire host.ends)
        by (inr apart) = not_kept x.wire is ((o.elsewhere place (host_of h) k.at (λ same. apart (some_same q place (sym at ∙ same)))).given b)
        by (inl same) =
            subst (λ (y : HostFacts). GaveOf x.wire all x.stage owed y.kept (told_in_turn x.wire y.ends)) (its q host same got)
            (subst (GaveOf x.wire all x.stage owed None) (sym (told x.wire))
            (so (subst (λ y. GaveOf x.wire (handed x.stream made) x.stage x.owed y (told_in_turn x.wire h.ends)) kept (o.gives place (host_of h) k.at (at ∙ ap Some same) b))))

    -- it is given to its session, which is this one
    module _ (number : owing.number ≡ n) (mine later_mine : List journal.Entry) (brings : (made : List CallMade) → MadeBy made mine → Hands (on_stream owing.stream owing.given) made later_mine) where
      unhanded_still : (q : ℕ) → q < most_streams → (made : List CallMade) → (g : Hands (on_stream owing.stream owing.given) made later_mine) → (B → NoneAt B (wire_of n q) (host_of h)) → (B → handed q made ≡ [])
          → B → handed q g.calls ≡ []
      unhanded_still q small made g nothing unhanded b = by (same_or_apart owing.stream q)
        where
          by : (owing.stream ≡ q) ⊎ (owing.stream ≢ q) → handed q g.calls ≡ []
          by (inl same) = not_kept (wire_of n q) (of_both n q owing small number same) ((nothing b).given b)
          by (inr apart) = hands_other q (on_stream owing.stream owing.given) made later_mine g (given_on_other q owing.stream owing.given apart) ∙ unhanded b

      given_side : (made : List CallMade) (g : Hands (on_stream owing.stream owing.given) made later_mine) (item : Option Inward) (x : Side) → IsProperSide n x → (owing.stream ≡ x.stream → x.owed ≡ None)
          → SideKeeps B k.hosted made item x → SideKeeps B (with_host place (record { kept = None; ends = ends }) others) g.calls item x
      given_side made g item x p first o = by (same_or_apart owing.stream x.stream)
        where
          by : (owing.stream ≡ x.stream) ⊎ (owing.stream ≢ x.stream) → SideKeeps B (with_host place (record { kept = None; ends = ends }) others) g.calls item x
          by (inr apart) =
              side_left B k.hosted (with_host place (record { kept = None; ends = ends }) others) g.calls item x
              (emptied_leaves x.wire (ap (λ w. is_of w owing) p.wire ∙ of_another_stream n x.stream owing p.small apart))
              (side_calls B k.hosted made g.calls item x g.same (hands_other x.stream (on_stream owing.stream owing.given) made later_mine g (given_on_other x.stream owing.stream owing.given apart)) o)
          by (inl same) = record {
            begun = subst (WasBegun x.stream) (sym g.same) o.begun;
            here = λ q host got at few. passed_emptied x.wire (carried x.stream (taken g.calls)) (its_kept x.stream item) x.stage q host got few
                (λ y was less. subst (λ xs. PassedOf x.wire (carried x.stream xs) x.stage (its_kept x.stream item) y.ends) (sym g.same) (o.here q y was at less));
            elsewhere = λ q host got away. none_emptied x.wire q host got (λ y was. o.elsewhere q y was away);
            gives = given_emptied made item x (handed x.stream g.calls) x.owed it o given_now;
          }
            where
              it : is_of x.wire owing ≡ true
              it = ap (λ w. is_of w owing) p.wire ∙ of_both n x.stream owing p.small number same

              gave : List (List ℕ)
              gave = option_to_list (stanza_in owing.given)

              now_handed : handed x.stream g.calls ≡ handed x.stream made ++ gave
              now_handed = hands_on x.stream (on_stream owing.stream owing.given) made later_mine g ∙ ap (λ ys. handed x.stream made ++ ys) (given_on_this x.stream owing.stream owing.given same)

              given_now : GaveOf x.wire (handed x.stream made) x.stage x.owed (Some owing) (told_in_turn x.wire h.ends) → GaveOf x.wire (handed x.stream g.calls) x.stage x.owed None (told_in_turn x.wire h.ends)
              given_now was =
                  let opened : x.stage ≢ stages.Unopened = kept_opened x.wire (handed x.stream made) x.stage x.owed owing (told_in_turn x.wire h.ends) it was in
                  subst (λ all. GaveOf x.wire all x.stage x.owed None (told_in_turn x.wire h.ends)) (sym now_handed)
                  (gave_as x.wire (handed x.stream made) (handed x.stream made ++ gave) x.stage x.stage x.owed x.owed (Some owing) None (told_in_turn x.wire h.ends) opened
                  (ap (λ y. handed x.stream made ++ (stanzas_owed y ++ stanzas_kept x.wire (Some owing))) (first same)
                  ∙ (ap (λ xs. handed x.stream made ++ xs) (kept_for x.wire owing it)
                  ∙ (sym (append-nil (handed x.stream made ++ gave)) ∙ ap (λ y. (handed x.stream made ++ gave) ++ (stanzas_owed y ++ [])) (sym (first same))))) opened was)

      given_line : (line : LineFacts) → IsProper n line → list_any (owes_on owing.stream) line.sides ≡ false → LineKeeps B n k.hosted line mine
          → LineKeeps B n (with_host place (record { kept = None; ends = ends }) others) line later_mine
      given_line line proper first l =
          let g : Hands (on_stream owing.stream owing.given) l.calls later_mine = brings l.calls l.made in
          record {
            calls = g.calls;
            made = g.by_these;
            zeroth = l.zeroth;
            once = l.once;
            has = λ p x is. given_side l.calls g line.kept x (proper.sides p x is) (λ same. owes_none p x is same (nothing_owed p x is)) (l.has p x is);
            hasnt = λ q small unmet.
                let m : NotMet B k.hosted n q l.calls line.kept = l.hasnt q small unmet in
                record {
                  nothing = λ p host is. none_emptied (wire_of n q) p host is (λ y was. m.nothing p y was);
                  earlier = m.earlier;
                  are = g.same ∙ m.are;
                  unopened = m.unopened;
                  unhanded = unhanded_still q small l.calls g (λ b. m.nothing place (host_of h) k.at) m.unhanded;
                };
          }
        where
          nothing_owed : (p : ℕ) (x : Side) → slice_get line.sides p ≡ Some x → owes_on owing.stream x ≡ false
          nothing_owed p x is = by (owes_on owing.stream x) refl
            where
              by : (b : Bool) → owes_on owing.stream x ≡ b → owes_on owing.stream x ≡ false
              by false isnt = isnt
              by true so = absurd (true≢false (sym (any_at (owes_on owing.stream) line.sides p x is so) ∙ first))

          owes_none : (p : ℕ) (x : Side) → slice_get line.sides p ≡ Some x → owing.stream ≡ x.stream → owes_on owing.stream x ≡ false → x.owed ≡ None
          owes_none p x is same isnt = by x.owed refl
            where
              by : (o : Option Owing) → x.owed ≡ o → x.owed ≡ None
              by None empty = empty
              by (Some y) full =
                  absurd (true≢false (sym (ap (λ b. b && is_some x.owed) (eq-eqb x.stream owing.stream (sym same)) ∙ ap is_some full) ∙ isnt))

      given_unmet : (u_calls : List CallMade) → MadeBy u_calls mine → taken u_calls ≡ [] → ((q : ℕ) → q < most_streams → B → handed q u_calls ≡ []) → NothingPassed B n k.hosted
          → (g : Hands (on_stream owing.stream owing.given) u_calls later_mine) → (q : ℕ) → q < most_streams → B → handed q g.calls ≡ []
      given_unmet u_calls made nothing unhanded none_passed g q small b =
          unhanded_still q small u_calls g (λ b. none_passed q small place (host_of h) k.at) (unhanded q small) b

    -- it is kept with the side of its stream
    module _ (number : owing.number ≡ n) (line : LineFacts) (at : ℕ) (side : Side) (there : slice_get line.sides at ≡ Some side) (of : side.stream ≡ owing.stream) (to : side.host ≡ Some place)
        (empty : side.owed ≡ None) (proper : IsProper n line) (mine : List journal.Entry) (l : LineKeeps B n k.hosted line mine) where
      owed_side : SideKeeps B k.hosted l.calls line.kept side → SideKeeps B (with_host place (record { kept = None; ends = ends }) others) l.calls line.kept (record side { owed = Some owing })
      owed_side o = record {
        begun = o.begun;
        here = λ q host got also few. passed_emptied side.wire (carried side.stream (taken l.calls)) (its_kept side.stream line.kept) side.stage q host got few (λ y was less. o.here q y was also less);
        elsewhere = λ q host got away. none_emptied side.wire q host got (λ y was. o.elsewhere q y was away);
        gives = given_emptied l.calls line.kept side (handed side.stream l.calls) (Some owing) it o owed_now;
      }
        where
          p : IsProperSide n side
          p = proper.sides at side there

          it : is_of side.wire owing ≡ true
          it = ap (λ w. is_of w owing) p.wire ∙ of_both n side.stream owing p.small number (sym of)

          owed_now : GaveOf side.wire (handed side.stream l.calls) side.stage side.owed (Some owing) (told_in_turn side.wire h.ends)
              → GaveOf side.wire (handed side.stream l.calls) side.stage (Some owing) None (told_in_turn side.wire h.ends)
          owed_now gave =
              let was : GaveOf side.wire (handed side.stream l.calls) side.stage None (Some owing) (told_in_turn side.wire h.ends) =
              subst (λ o. GaveOf side.wire (handed side.stream l.calls) side.stage o (Some owing) (told_in_turn side.wire h.ends)) empty gave in
              let opened : side.stage ≢ stages.Unopened = kept_opened side.wire (handed side.stream l.calls) side.stage None owing (told_in_turn side.wire h.ends) it was in
              gave_as side.wire (handed side.stream l.calls) (handed side.stream l.calls) side.stage side.stage None (Some owing) (Some owing) None (told_in_turn side.wire h.ends) opened
              (ap (λ xs. handed side.stream l.calls ++ xs) (kept_for side.wire owing it ∙ sym (append-nil (stanzas_owed (Some owing))))) opened was

      owed_line : LineKeeps B n (with_host place (record { kept = None; ends = ends }) others) (with_side at (record side { owed = Some owing }) line) mine
      owed_line = record {
        calls = l.calls;
        made = l.made;
        zeroth = is_met_put 0 line.sides at side (record side { owed = Some owing }) there refl ∙ l.zeroth;
        once = λ p q x y at_p at_q same.
            let a : WasOf line.sides p x = was_of line.sides at p side (record side { owed = Some owing }) x there refl at_p in
            let b : WasOf line.sides q y = was_of line.sides at q side (record side { owed = Some owing }) y there refl at_q in
            l.once p q a.before b.before a.is b.is (sym a.of ∙ (same ∙ b.of));
        has = λ p x got. its_side p x got (same_or_apart p at);
        hasnt = λ q small unmet.
            let was : is_met q line.sides ≡ false = sym (is_met_put q line.sides at side (record side { owed = Some owing }) there refl) ∙ unmet in
            unmet_left B k.hosted (with_host place (record { kept = None; ends = ends }) others) n q l.calls line.kept
            (emptied_leaves (wire_of n q) (of_another_stream n q owing small (λ same. unmet_apart q line.sides at side was there (of ∙ same)))) (l.hasnt q small was);
      }
        where
          its_side : (p : ℕ) (x : Side) → slice_get (set line.sides at (record side { owed = Some owing })) p ≡ Some x → (p ≡ at) ⊎ (p ≢ at)
              → SideKeeps B (with_host place (record { kept = None; ends = ends }) others) l.calls line.kept x
          its_side p x got (inl same) =
              subst (SideKeeps B (with_host place (record { kept = None; ends = ends }) others) l.calls line.kept)
              (same_of (slice_get (set line.sides at (record side { owed = Some owing })) at) (record side { owed = Some owing }) x (got_put line.sides at side (record side { owed = Some owing }) there)
              (ap (slice_get (set line.sides at (record side { owed = Some owing }))) (sym same) ∙ got))
              (owed_side (l.has at side there))
          its_side p x got (inr apart) =
              let before : slice_get line.sides p ≡ Some x = sym (got_other line.sides at p (record side { owed = Some owing }) apart) ∙ got in
              let q : IsProperSide n x = proper.sides p x before in
              side_left B k.hosted (with_host place (record { kept = None; ends = ends }) others) l.calls line.kept x
              (emptied_leaves x.wire (ap (λ w. is_of w owing) q.wire ∙ of_another_stream n x.stream owing q.small (λ same. apart (l.once p at x side before there (sym same ∙ sym of)))))
              (l.has p x before)

  gives_on : (h : HostSide) (owing : Owing) (sessions : Sessions) → h.kept ≡ Some owing → ComesFirst owing.number owing.stream h.lines
      → Turned owing.number h.sessions sessions (OnceReady owing (Takes moment owing.stream owing.given)) → OthersStay owing.number h.sessions sessions → HostKeeps h
      → HostKeeps (record h { kept = None; sessions = sessions })
  gives_on h owing sessions kept first t stay k = by (same_or_apart owing.number n)
    where
      away : owing.number ≢ n → n ≢ owing.number
      away apart same = apart (sym same)

      brings : Brings (on_stream owing.stream owing.given) (known t.before.pass) (known t.after.pass)
      brings = brings_once (on_stream owing.stream owing.given) owing (Takes moment owing.stream owing.given) (λ k m r. brings_taken moment owing.stream owing.given k m r)
          (known t.before.pass) (known t.after.pass) t.says

      own : owing.number ≡ n → Keeps B G n (held h.sessions n) (line_of h.lines n) k.hosted seen
          → Keeps B G n (held sessions n) (line_of h.lines n) (with_host place (record { kept = None; ends = h.ends }) others) seen
      own same (unmet no_line held_so nothing) =
          let before : held h.sessions n ≡ Some t.before = ap (held h.sessions) (sym same) ∙ t.was in
          let after : held sessions n ≡ Some t.after = ap (held sessions) (sym same) ∙ t.is in
          let u : IsUnmet B n seen t.before = held_so t.before before in
          let g : Hands (on_stream owing.stream owing.given) u.calls (known t.after.pass).mine = brings u.calls u.made in
          unmet no_line (λ x at. subst (IsUnmet B n seen) (same_of (held sessions n) t.after x after at) (record {
            opened = subst (λ s. IsOpening n s seen) (sym t.of_same.sid) u.opened;
            calls = g.calls;
            made = g.by_these;
            nothing = g.same ∙ u.nothing;
            unhanded = given_unmet h owing h.ends kept (λ w. no_drift) (λ w. refl) k same (known t.before.pass).mine (known t.after.pass).mine brings u.calls u.made u.nothing u.unhanded nothing g;
          })) (λ q small p host is. none_emptied h owing h.ends kept (λ w. no_drift) (λ w. refl) k (wire_of n q) p host is (λ y was. nothing q small p y was))
      own same (was_met handle line at there opened l) =
          let before : held h.sessions n ≡ Some t.before = ap (held h.sessions) (sym same) ∙ t.was in
          let its : handle ≡ t.before = same_of (held h.sessions n) handle t.before at before in
          was_met t.after line (ap (held sessions) (sym same) ∙ t.is) there
          (subst (λ s. IsOpening n s seen) (sym t.of_same.sid) (subst (λ (x : SessionHandle). IsOpening n x.sid seen) its opened))
          (given_line h owing h.ends kept (λ w. no_drift) (λ w. refl) k same (known t.before.pass).mine (known t.after.pass).mine brings (line_facts line) (k.proper n line there)
          (subst (λ x. IfSome x (λ (line : Line). list_any (owes_on owing.stream) line.sides.items ≡ false)) there (subst (λ m. ComesFirst m owing.stream h.lines) same first))
          (subst (λ (x : SessionHandle). LineKeeps B n k.hosted (line_facts line) (known x.pass).mine) its l))
      own same (is_gone no_line nobody gone why) = absurd (none_some (held h.sessions n) t.before nobody (ap (held h.sessions) (sym same) ∙ t.was))

      by : (owing.number ≡ n) ⊎ (owing.number ≢ n) → HostKeeps (record h { kept = None; sessions = sessions })
      by (inl same) = record {
        hosted = with_host place (record { kept = None; ends = h.ends }) others;
        here = k.here;
        at = with_host_there place (record { kept = None; ends = h.ends }) others;
        away = λ q apart. with_host_away place (record { kept = None; ends = h.ends }) others q apart;
        keeps = own same k.keeps;
        proper = k.proper;
      }
      by (inr apart) =
          let g : HostKeeps (record h { kept = None }) = let_go h (record h { kept = None }) owing apart (λ w. no_drift) (λ w. refl) kept refl refl refl refl k in
          record {
            hosted = g.hosted;
            here = g.here;
            at = g.at;
            away = g.away;
            keeps = subst (λ o. Keeps B G n o (line_of h.lines n) g.hosted seen) (sym (stay n (away apart))) g.keeps;
            proper = g.proper;
          }

  opened_here : (stream p failures : ℕ) (side : Side) → is_open_here stream p failures side ≡ true → (side.stream ≡ stream) × (side.host ≡ Some p)
  opened_here stream p failures side open_here = (
    eqb-true side.stream stream (and_first (side.stream == stream) (is_opened_at p failures side.host side.stage) open_here),
    by side.host refl (and_last (side.stream == stream) (is_opened_at p failures side.host side.stage) open_here),
  )
    where
      by : (o : Option ℕ) → side.host ≡ o → is_opened_at p failures o side.stage ≡ true → side.host ≡ Some p
      by None at opened = absurd (true≢false (sym opened))
      by (Some q) at opened = at ∙ ap Some (eqb-true q p (and_first (q == p) (is_opened_on failures side.stage) opened))

  holds_on : (h : HostSide) (owing : Owing) (line later : Line) (at : ℕ) (side : Side) (lines : Lines) (told : Option Told) → h.kept ≡ Some owing → IsHere h owing.number owing.stream line at side → side.owed ≡ None
      → LineTurns owing.number h.lines lines line later → line_facts later ≡ with_side at (record side { owed = Some owing }) (line_facts line)
      → Becomes h.ends.standing.told told (held_too owing.wire) → HostKeeps h → HostKeeps (record h { kept = None; ends = telling told h.ends; lines = lines })
  holds_on h owing line later at side lines told kept here empty l facts is k = by (same_or_apart owing.number n)
    where
      drifts : (w : ℕ) → Drifts w h.ends (telling told h.ends)
      drifts w = drifts_on no_drift (tells_still w h.ends told (held_too owing.wire) (λ t. refl) is)

      same_told : (w : ℕ) → told_in_turn w (telling told h.ends) ≡ told_in_turn w h.ends
      same_told w = still w h (record h.ends.standing { told = told }) (held_too owing.wire) (λ t. refl) is

      its_line : IsProper owing.number (line_facts later)
      its_line =
          let p : IsProper owing.number (line_facts line) = k.proper owing.number line l.before in
          let q : IsProperSide owing.number side = p.sides at side here.there in
          subst (IsProper owing.number) (sym facts)
          (put_proper owing.number (line_facts line) line.kept at (record side { owed = Some owing })
          (record { wire = q.wire; small = q.small; owes = sym (opened_here owing.stream h.place h.ends.failures side here.open_here).0 }) p)

      proper : (m : ℕ) (x : Line) → line_of lines m ≡ Some x → (m ≡ owing.number) ⊎ (m ≢ owing.number) → IsProper m (line_facts x)
      proper m x there (inl same) =
          subst (λ (j : ℕ). IsProper j (line_facts x)) (sym same)
          (subst (λ (y : Line). IsProper owing.number (line_facts y)) (same_of (line_of lines owing.number) later x l.after (ap (line_of lines) (sym same) ∙ there)) its_line)
      proper m x there (inr apart) = k.proper m x (sym (l.others m apart) ∙ there)

      own : owing.number ≡ n → Keeps B G n (held h.sessions n) (line_of h.lines n) k.hosted seen
          → Keeps B G n (held h.sessions n) (line_of lines n) (with_host place (record { kept = None; ends = telling told h.ends }) others) seen
      own same (unmet no_line held_so nothing) = absurd (none_some (line_of h.lines n) line no_line (ap (line_of h.lines) (sym same) ∙ l.before))
      own same (was_met handle other held_as there opened o) =
          let before : line_of h.lines n ≡ Some line = ap (line_of h.lines) (sym same) ∙ l.before in
          let its : other ≡ line = same_of (line_of h.lines n) other line there before in
          let found : (side.stream ≡ owing.stream) × (side.host ≡ Some h.place) = opened_here owing.stream h.place h.ends.failures side here.open_here in
          was_met handle later held_as (ap (line_of lines) (sym same) ∙ l.after) opened
          (subst (λ (f : LineFacts). LineKeeps B n (with_host place (record { kept = None; ends = telling told h.ends }) others) f (known handle.pass).mine) (sym facts)
          (owed_line h owing (telling told h.ends) kept drifts same_told k same (line_facts line) at side here.there found.0 (found.1 ∙ ap Some k.here) empty
          (k.proper n line before) (known handle.pass).mine (subst (λ (x : Line). LineKeeps B n k.hosted (line_facts x) (known handle.pass).mine) its o)))
      own same (is_gone no_line nobody gone why) = absurd (none_some (line_of h.lines n) line no_line (ap (line_of h.lines) (sym same) ∙ l.before))

      by : (owing.number ≡ n) ⊎ (owing.number ≢ n) → HostKeeps (record h { kept = None; ends = telling told h.ends; lines = lines })
      by (inl same) = record {
        hosted = with_host place (record { kept = None; ends = telling told h.ends }) others;
        here = k.here;
        at = with_host_there place (record { kept = None; ends = telling told h.ends }) others;
        away = λ q apart. with_host_away place (record { kept = None; ends = telling told h.ends }) others q apart;
        keeps = own same k.keeps;
        proper = λ m x there. proper m x there (same_or_apart m owing.number);
      }
      by (inr apart) =
          let g : HostKeeps (record h { kept = None; ends = telling told h.ends }) =
          let_go h (record h { kept = None; ends = telling told h.ends }) owing apart drifts same_told kept refl refl refl refl k in
          record {
            hosted = g.hosted;
            here = g.here;
            at = g.at;
            away = g.away;
            keeps = subst (λ x. Keeps B G n (held h.sessions n) x g.hosted seen) (sym (l.others n (λ same. apart (sym same)))) g.keeps;
            proper = λ m x there. proper m x there (same_or_apart m owing.number);
          }

  lets_go_on : (h : HostSide) (owing : Owing) → h.kept ≡ Some owing → held h.sessions owing.number ≡ None → HostKeeps h → HostKeeps (record h { kept = None })
  lets_go_on h owing kept nobody k = by (same_or_apart owing.number n)
    where
      own : owing.number ≡ n → Keeps B G n (held h.sessions n) (line_of h.lines n) k.hosted seen
          → Keeps B G n (held h.sessions n) (line_of h.lines n) (with_host place (record { kept = None; ends = h.ends }) others) seen
      own same (unmet no_line held_so nothing) =
          unmet no_line held_so (λ q small p host is. none_emptied h owing h.ends kept (λ w. no_drift) (λ w. refl) k (wire_of n q) p host is (λ y was. nothing q small p y was))
      own same (was_met handle line at there opened l) = absurd (none_some (held h.sessions n) handle (ap (held h.sessions) (sym same) ∙ nobody) at)
      own same (is_gone no_line no_one gone why) = is_gone no_line no_one gone why

      by : (owing.number ≡ n) ⊎ (owing.number ≢ n) → HostKeeps (record h { kept = None })
      by (inl same) = record {
        hosted = with_host place (record { kept = None; ends = h.ends }) others;
        here = k.here;
        at = with_host_there place (record { kept = None; ends = h.ends }) others;
        away = λ q apart. with_host_away place (record { kept = None; ends = h.ends }) others q apart;
        keeps = own same k.keeps;
        proper = k.proper;
      }
      by (inr apart) = let_go h (record h { kept = None }) owing apart (λ w. no_drift) (λ w. refl) kept refl refl refl refl k

  move_keeps : (h i : HostSide) → GiveMove moment h i → HostKeeps h → HostKeeps i
  move_keeps h i (polls p) k = poll_gave h i p k
  move_keeps h i (finds_nothing told empty is) k =
      drifted h (record h { ends = idling told h.ends }) (λ w. drifts_on no_drift (stays _ (became_still w h.ends.standing.told told (λ told. told) (λ t. refl) is)))
      (λ w. still w h (idling told h.ends).standing (λ told. told) (λ t. refl) is) refl refl refl refl k
  move_keeps h i (fails ends empty f) k = drifted h (record h { ends = ends }) (λ w. failed_drifts w h.ends ends f) (λ w. failed_told w h.ends ends f) refl refl refl refl k
  move_keeps h i (does_nothing told is) k =
      drifted h (record h { ends = telling told h.ends }) (λ w. drifts_on no_drift (tells_still w h.ends told (λ told. told) (λ t. refl) is))
      (λ w. still w h (record h.ends.standing { told = told }) (λ told. told) (λ t. refl) is) refl refl refl refl k
  move_keeps h i (gives owing sessions kept first t stay) k = gives_on h owing sessions kept first t stay k
  move_keeps h i (is_refused owing later sessions kept first number stream wire given was t stay) k =
      refused_on h owing later sessions (OnceReady owing (Refuses moment owing.stream owing.given))
      (λ k l says. carries_once owing (Refuses moment owing.stream owing.given) (λ k m r. carries_refuses moment owing.stream owing.given k m r) k l says) kept number stream given t stay k
  move_keeps h i (is_held owing line later at side lines told kept was here empty l facts is) k = holds_on h owing line later at side lines told kept here empty l facts is k
  move_keeps h i (asks owing sessions kept t stay) k = turned h (record h { sessions = sessions }) owing.number _ (λ k l says. carries_asked k l says) refl refl refl refl t stay k
  move_keeps h i (lets_go owing kept nobody) k = lets_go_on h owing kept nobody k
  move_keeps h i (wants_memory number sessions t stay) k = turned h (record h { sessions = sessions }) number _ (λ k l says. carries_tried k l says) refl refl refl refl t stay k

  moves_keep : (h i : HostSide) → GiveMoves moment h i → HostKeeps h → HostKeeps i
  moves_keep h i none k = k
  moves_keep h i (more {i = j} before move) k = move_keeps j i move (moves_keep h j before k)

  times_keep : (count : ℕ) (h i : HostSide) → GivesTimes moment count h i → HostKeeps h → HostKeeps i
  times_keep count h i never k = k
  times_keep count h i (moves {i = j} before move) k = move_keeps j i move (times_keep count h j before k)
  times_keep count h i (again {count = fewer} {i = j} before p) k = poll_gave j i p (times_keep fewer h j before k)

  dry_keeps : (h i : HostSide) → RunsDry moment h i → HostKeeps h → HostKeeps i
  dry_keeps h i (had_nothing {i = j} told before empty is) k = move_keeps j i (finds_nothing told empty is) (moves_keep h j before k)
  dry_keeps h i (has_failed {i = j} ends before empty f) k = move_keeps j i (fails ends empty f) (moves_keep h j before k)
  dry_keeps h i (had_one_before owing line before kept there owes) k = moves_keep h i before k
  dry_keeps h i (had_no_room r) k = subst HostKeeps (sym r.is)
      (refused_on r.before r.owing r.later r.sessions (FindsNoRoom moment r.owing) (λ k l says. carries_no_room moment r.owing k l says) r.kept r.number r.stream r.given r.found r.others
      (moves_keep h r.before r.moves k))

  polls_keep : (h i : HostSide) (result : Result ⊤ AllocError) → PollsHost moment h i result → HostKeeps h → HostKeeps i
  polls_keep h i (Ok done) (ran_dry dry) k = dry_keeps h i dry k
  polls_keep h i (Ok done) (gave_much {i = j} times after empty) k = moves_keep j i after (times_keep _ h j times k)
  polls_keep h i (Err error) before k = moves_keep h i before k

pub polls_at_keeps : {B G : Type 0} (n : ℕ) (moment : Option ℕ) (place : ℕ) (a b : Pumping) (result : Result ⊤ AllocError) → PollsAt moment place a b result → Good B G n a → Good B G n b
polls_at_keeps {B} {G} n moment place a b result p g = subst (Good B G n) (sym p.same) (record {
  keeps = keeps_left n (held b.sessions n) (line_of b.lines n) end.hosted (host_at b.hosts) a.directory.seen (λ line is. end.proper n line is)
      (λ q small. turn_leaves B (wire_of n q) place p.later p.later end.hosted (host_at b.hosts) (record {
        was = end.at;
        is = turn.is;
        others = λ q apart. turn.others q apart ∙ sym (end.away q apart);
      }) (leaves_same B (wire_of n q) p.later)) end.keeps;
  proper = end.proper;
})
  where
    turn : HostTurn place p.host p.later (host_at a.hosts) (host_at b.hosts)
    turn = host_turned place a.hosts b.hosts p.host p.later p.turned

    start : HostKeeps B G n moment place (host_at a.hosts) a.directory.seen (at_host place p.host a.sessions a.lines)
    start = record { hosted = host_at a.hosts; here = refl; at = turn.was; away = λ q apart. refl; keeps = g.keeps; proper = g.proper }

    end : HostKeeps B G n moment place (host_at a.hosts) a.directory.seen (at_host place p.later b.sessions b.lines)
    end = polls_keep B G n moment place (host_at a.hosts) a.directory.seen (at_host place p.host a.sessions a.lines) (at_host place p.later b.sessions b.lines) result p.polls start

pub polls_at_starts : (moment : Option ℕ) (place : ℕ) (a b : Pumping) (result : Result ⊤ AllocError) → PollsAt moment place a b result → StartsWith b.directory.seen a.directory.seen
polls_at_starts moment place a b result p = subst (λ k. StartsWith k.seen a.directory.seen) (sym (ap (λ (x : Pumping). x.directory) p.same)) ([], sym (append-nil a.directory.seen))
