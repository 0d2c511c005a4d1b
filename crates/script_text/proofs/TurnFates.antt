-- What becomes of a session's requests that wait, with one turn of it.
use Rattle.std.proofs.Common.{◌≡◌, ℕ, ◌+◌, ◌<◌, ◌≤◌, ◌==◌, ◌&&◌, Bool, true, false, not, List, [], ◌∷◌, ◌++◌, All, map, length, Option, Some, None, refl, sym, subst, ◌∙◌, ap, arith, cond, if◌then◌else◌}
use Rattle.std.specs.Prelude.{count_by, is_some}
use Rattle.std.proofs.lemmas.List.Elements.{All-nil, All-cons, All-append, All-weaker}
use Rattle.bosh_types.specs.declared.ending.Ending.{Ending}
use Rattle.bosh_types.specs.declared.inward.Inward.{Inward}
use Rattle.session_attrs.specs.declared.request.Request.{Request}
use Rattle.session_core.specs.declared.replies.Arrived.{Arrived}
use Rattle.session_core.specs.declared.replies.Arrived.TheVariants as arrivals
use Rattle.session_core.specs.declared.replies.Taken.{Taken}
use Rattle.session_core.specs.declared.replies.Taken.TheVariants as takings
use Rattle.session_core.specs.Copy.{unnamed}
use Rattle.session_core.specs.Journal.{Call, Arrive, Back, BackClosed, Tick, Arrival, ServerStanza, ServerClosing, Time, Entered, Journal, IsJournal, IsAllowed, entered_by, state_of, within_limit}
use Rattle.session_core.specs.Machine.{arrive, back, back_closed, tick}
use Rattle.session_core.specs.State.{PlainSession, Issued, inward, is_over}
use Rattle.session_core.specs.Time.{is_due}
use Rattle.session_core.specs.TicketsOut.{issued_at}
use Rattle.session_laws.proofs.Tests.{if_false, true_false}
use Rattle.session_calls.specs.After.{after_call, all_taken, untaken, with_entered}
use Rattle.script_text.specs.declared.event.Event.{Event}
use Rattle.script_text.specs.declared.event.Event.TheVariants.{Arrives, Gives, Shuts, Passes}
use Rattle.script_text.specs.declared.live.Parked.{Parked}
use Rattle.script_text.specs.declared.report.Refusal.{Refusal}
use Rattle.script_text.specs.declared.report.Refusal.TheVariants.{BackFull, BackOver, ShutOver}
use Rattle.script_text.specs.declared.report.ReportLine.{ReportLine}
use Rattle.script_text.specs.declared.report.ReportLine.TheVariants.{In, Out, Over, Refused}
use Rattle.script_text.specs.Fates.{is_gone, is_lost, is_out, is_replaced, lost_place, replaced_with, was_on}
use Rattle.script_text.specs.Live.{PlainLive, Turn, arrived, collected_lines, not_found, over_lines, refusal_of_back, refusal_of_shut, refused_first, settled_after, state, still_parked, ticked, told, turn_at, with_journal, with_parked}
use Rattle.script_text.specs.Manager.{waits_on}
use Rattle.script_text.specs.Stands.{IsEvent}
use Rattle.script_text.proofs.FateLemmas.{Fates, collected_fates, none_left}
use Rattle.script_text.proofs.JournalSteps.{Comes, all_are_collected, all_are_taken}
use Rattle.script_text.proofs.OutLemmas.{IsOut, WaitWell, new_above, new_first, new_keeps, new_out, rise_push, still_all_out, still_out, still_rises}
use Rattle.script_text.proofs.OwnLemmas.{changed_is, event_entry, quiet_is}
use Rattle.script_text.proofs.SessionsLemmas.{count_append}
use Rattle.script_text.proofs.TurnLemmas.{IsUp, few, later_made}

-- one where it is so
abbrev pub unit : Bool → ℕ
unit b = cond b 1 0

-- lines of which none is so
none_items : (p : ReportLine → Bool) → ((number : ℕ) (item : Inward) → p (In number item) ≡ false) → (number : ℕ) (items : List Inward) → count_by p (map (In number) items) ≡ 0
none_items p none number [] = refl
none_items p none number (item ∷ items) =
    let first : unit (p (In number item)) ≡ 0 = ap unit (none number item) in
    let both = count_append p (In number item ∷ []) (map (In number) items) in
    let rest = none_items p none number items in
    omega (arith, first, both, rest)

none_over : (p : ReportLine → Bool) → ((number : ℕ) (ending : Ending) → p (Over number ending) ≡ false) → (number : ℕ) (ending : Option Ending) → count_by p (over_lines number ending) ≡ 0
none_over p none number None = refl
none_over p none number (Some ending) =
    let first : unit (p (Over number ending)) ≡ 0 = ap unit (none number ending) in
    omega (arith, first)

-- the requests of a session, what was answered at once beside them, the lines, and the session after them
pub record HasFate (conn : ℕ) (parked : List Parked) (posted : ℕ) (replaced_open replaced_shut : ℕ) (lines : List ReportLine) (after : PlainLive) : Type 0 where
  pub on_open : count_by (waits_on conn) parked + posted ≡ count_by (is_out conn) lines + count_by (is_gone conn) lines + count_by (waits_on conn) after.parked
  pub gone : count_by (is_gone conn) lines ≡ replaced_open
  pub shut : count_by (was_on conn) parked ≡ count_by (is_lost conn) lines + replaced_shut + count_by (was_on conn) after.parked
  pub well : WaitWell after.journal after.parked
  pub ended : is_over (state after) ≡ true → after.parked ≡ []

abbrev lost_in : (Parked → Bool) → List Issued → List Parked → ℕ
lost_in p tickets parked = count_by (λ x. p x && elim (issued_at tickets x.ticket) [ None ↦ false | Some ticket ↦ is_replaced ticket.state ]) parked

module _ (conn : ℕ) where
  -- lines that a turn tells beside what was collected
  pub record Aside (answer : List ReportLine) : Type 0 where
    pub gone : count_by (is_gone conn) answer ≡ 0
    pub lost : count_by (is_lost conn) answer ≡ 0

  module _ (s : PlainLive) (answer : List ReportLine) (made : IsJournal s.journal) (within : (state s).passed ≤ length (inward (state s))) (well : WaitWell s.journal s.parked) (beside : Aside answer) where
    taken : Journal
    taken = all_taken s.journal

    taken_is : IsJournal (all_taken s.journal) × (state_of (all_taken s.journal) ≡ record (state s) { passed = length (inward (state s)) })
    taken_is = all_are_taken s.journal made within

    tickets_same : (state_of (all_taken s.journal)).tickets ≡ (state s).tickets
    tickets_same = ap (λ (u : PlainSession). u.tickets) taken_is.1

    all_out : All (IsOut (state_of (all_taken s.journal))) s.parked
    all_out = All-weaker (IsOut (state s)) (IsOut (state_of (all_taken s.journal)))
        (λ p out. (out.0, ap (λ (l : List Issued). issued_at l p.ticket) tickets_same ∙ out.1, out.2)) s.parked well.out

    pub told_fate : HasFate conn s.parked (count_by (is_out conn) answer) (count_by (λ p. waits_on conn p && lost_place (state s) p) s.parked)
        (count_by (λ p. was_on conn p && lost_place (state s) p) s.parked) (told s answer).lines (settled_after s)
    told_fate =
        let j : Journal = all_taken s.journal in
        let items : List ReportLine = map (In s.number) (untaken s.journal) in
        let lines : List ReportLine = collected_lines j s.parked in
        let last : List ReportLine = over_lines s.number (state (settled_after s)).ending in
        let f = collected_fates conn s.parked 0 j well.rise all_out in
        let out_items = none_items (is_out conn) (λ n i. refl) s.number (untaken s.journal) in
        let gone_items = none_items (is_gone conn) (λ n i. refl) s.number (untaken s.journal) in
        let lost_items = none_items (is_lost conn) (λ n i. refl) s.number (untaken s.journal) in
        let out_last = none_over (is_out conn) (λ n e. refl) s.number (state (settled_after s)).ending in
        let gone_last = none_over (is_gone conn) (λ n e. refl) s.number (state (settled_after s)).ending in
        let lost_last = none_over (is_lost conn) (λ n e. refl) s.number (state (settled_after s)).ending in
        let o1 = count_append (is_out conn) items (answer ++ (lines ++ last)) in
        let o2 = count_append (is_out conn) answer (lines ++ last) in
        let o3 = count_append (is_out conn) lines last in
        let g1 = count_append (is_gone conn) items (answer ++ (lines ++ last)) in
        let g2 = count_append (is_gone conn) answer (lines ++ last) in
        let g3 = count_append (is_gone conn) lines last in
        let l1 = count_append (is_lost conn) items (answer ++ (lines ++ last)) in
        let l2 = count_append (is_lost conn) answer (lines ++ last) in
        let l3 = count_append (is_lost conn) lines last in
        let open_same : count_by (λ p. waits_on conn p && lost_place (state_of j) p) s.parked ≡ count_by (λ p. waits_on conn p && lost_place (state s) p) s.parked
        = ap (λ (l : List Issued). lost_in (waits_on conn) l s.parked) tickets_same in
        let shut_same : count_by (λ p. was_on conn p && lost_place (state_of j) p) s.parked ≡ count_by (λ p. was_on conn p && lost_place (state s) p) s.parked
        = ap (λ (l : List Issued). lost_in (was_on conn) l s.parked) tickets_same in
        let collected = all_are_collected s.parked j taken_is.0 in
        let ending : is_over (state (settled_after s)) ≡ is_over (state_of j) = ap is_over (collected.1).1 in
        record {
          on_open = omega (arith, f.on_open, out_items, gone_items, out_last, gone_last, o1, o2, o3, g1, g2, g3, beside.gone);
          gone = omega (arith, f.gone, gone_items, gone_last, g1, g2, g3, beside.gone, open_same);
          shut = omega (arith, f.shut, lost_items, lost_last, l1, l2, l3, beside.lost, shut_same);
          well = record { rise = still_rises s.parked 0 j well.rise; out = still_all_out s.parked 0 j well.rise all_out };
          ended = λ over. none_left s.parked j (sym ending ∙ over);
        }

  none_aside : Aside []
  none_aside = record { gone = refl; lost = refl }

  pub out_aside : (other : ℕ) (body : List ℕ) → Aside (Out other body ∷ [])
  out_aside other body = record { gone = refl; lost = refl }

  -- how many requests come with an event on this connection
  abbrev pub posted_with : Event → ℕ
  posted_with (Arrives other request body) = if other == conn then 1 else 0
  posted_with (Gives stream stanza) = 0
  posted_with (Shuts stream closing) = 0
  posted_with Passes = 0

  module _ (s : PlainLive) (up : IsUp s) (call : Call) (allowed : IsAllowed call) (comes : Comes call) (well : WaitWell s.journal s.parked) (e : Entered) (is : entered_by (state s) call ≡ Some e) where
    abbrev then_journal : Journal
    then_journal = after_call s.journal call

    well_then : WaitWell then_journal s.parked
    well_then = record { rise = well.rise; out = All-weaker (IsOut (state s)) (IsOut (state_of then_journal)) (still_out s.journal up.made call allowed comes) s.parked well.out }

    entered_same : then_journal ≡ with_entered s.journal (Some e)
    entered_same = ap (with_entered s.journal) is

    -- what lost its place by then
    lost_then : (Parked → Bool) → ℕ
    lost_then p = count_by (λ x. p x && lost_place (state_of then_journal) x) s.parked

    lost_is : (p : Parked → Bool) → count_by (λ x. p x && lost_place (state_of then_journal) x) s.parked ≡ replaced_with p s (Some e)
    lost_is p = ap (λ j. count_by (λ x. p x && lost_place (state_of j) x) s.parked) entered_same

    called_fate : (answer : List ReportLine) → Aside answer → HasFate conn s.parked (count_by (is_out conn) answer) (replaced_with (waits_on conn) s (Some e)) (replaced_with (was_on conn) s (Some e))
        (told (with_journal s then_journal) answer).lines (settled_after (with_journal s then_journal))
    called_fate answer beside =
        let f = told_fate (with_journal s then_journal) answer (later_made s up call allowed comes) (few s up call allowed comes) well_then beside in
        record {
          on_open = f.on_open;
          gone = f.gone ∙ lost_is (waits_on conn);
          shut = subst (λ n. count_by (was_on conn) s.parked ≡ count_by (is_lost conn) (told (with_journal s then_journal) answer).lines + n + count_by (was_on conn) (settled_after (with_journal s then_journal)).parked) (lost_is (was_on conn)) f.shut;
          well = f.well;
          ended = f.ended;
        }

  -- lines of the server
  refused_fate : (s : PlainLive) (posted replaced_open replaced_shut : ℕ) (lines : List ReportLine) (turn : Turn) → count_by (is_out conn) lines ≡ 0 → count_by (is_gone conn) lines ≡ 0 → count_by (is_lost conn) lines ≡ 0
      → HasFate conn s.parked posted replaced_open replaced_shut turn.lines turn.after → HasFate conn s.parked posted replaced_open replaced_shut (refused_first lines turn).lines (refused_first lines turn).after
  refused_fate s posted replaced_open replaced_shut lines turn no_out no_gone no_lost f =
      let o = count_append (is_out conn) lines turn.lines in
      let g = count_append (is_gone conn) lines turn.lines in
      let l = count_append (is_lost conn) lines turn.lines in
      record {
        on_open = omega (arith, f.on_open, o, g, no_out, no_gone);
        gone = omega (arith, f.gone, g, no_gone);
        shut = omega (arith, f.shut, l, no_lost);
        well = f.well;
        ended = f.ended;
      }

  back_none : (p : ReportLine → Bool) → ((n : ℕ) (r : Refusal) → p (Refused n r) ≡ false) → (n : ℕ) (reply : Taken) → count_by p (refusal_of_back n reply) ≡ 0
  back_none p none n takings.Done = refl
  back_none p none n takings.Full = ap (λ b. 0 + unit b) (none n BackFull)
  back_none p none n takings.Over = ap (λ b. 0 + unit b) (none n BackOver)

  shut_none : (p : ReportLine → Bool) → ((n : ℕ) (r : Refusal) → p (Refused n r) ≡ false) → (n : ℕ) (reply : Taken) → count_by p (refusal_of_shut n reply) ≡ 0
  shut_none p none n takings.Done = refl
  shut_none p none n takings.Full = refl
  shut_none p none n takings.Over = ap (λ b. 0 + unit b) (none n ShutOver)

  module _ (s : PlainLive) (up : IsUp s) (well : WaitWell s.journal s.parked) (now : ℕ) where
    unended : (e : Entered) → (if is_over (state s) then None else Some e) ≡ Some e
    unended e = if_false (is_over (state s)) None (Some e) up.goes_on

    abbrev FateOf : Event → Turn → Type 0
    FateOf event turn = HasFate conn s.parked (posted_with event) (replaced_with (waits_on conn) s (event_entry now event s)) (replaced_with (was_on conn) s (event_entry now event s)) turn.lines turn.after

    module _ (other : ℕ) (request : Request) (body : List ℕ) (allowed : IsAllowed (Arrive request body now)) where
      abbrev entry : Entered
      entry = within_limit (state s) Arrival now (Arrive request body now)

      abbrev j : Journal
      j = after_call s.journal (Arrive request body now)

      answered_fate : (bytes : List ℕ) → FateOf (Arrives other request body) (told (with_journal s j) (Out other bytes ∷ []))
      answered_fate bytes =
          let f = called_fate s up (Arrive request body now) allowed tt well entry (unended entry) (Out other bytes ∷ []) (out_aside other bytes) in
          record {
            on_open = omega (arith, f.on_open);
            gone = f.gone;
            shut = f.shut;
            well = f.well;
            ended = f.ended;
          }

      parked_fate : (ticket : ℕ) → (arrive (state s) request body now).1 ≡ arrivals.Parked ticket → FateOf (Arrives other request body) (told (with_parked (with_journal s j) ticket other) [])
      parked_fate ticket is =
          let new : Parked = record { ticket = ticket; conn = other; is_open = true } in
          let call : Call = Arrive request body now in
          let kept = well_then s up call allowed tt well entry (unended entry) in
          let above = All-weaker (IsOut (state s)) (λ (p : Parked). p.ticket < new.ticket) (new_above s.journal up.made request body now allowed up.goes_on new is) s.parked well.out in
          let wider : WaitWell j (s.parked ++ new ∷ []) = record {
            rise = rise_push 0 s.parked new well.rise (new_first s.journal up.made request body now allowed up.goes_on new is) above;
            out = All-append (IsOut (state_of j)) s.parked (new ∷ []) kept.out (All-cons (IsOut (state_of j)) new [] (new_out s.journal up.made request body now allowed up.goes_on new is) (All-nil (IsOut (state_of j))));
          } in
          let f = told_fate (with_parked (with_journal s j) ticket other) [] (later_made s up call allowed tt) (few s up call allowed tt) wider none_aside in
          let keeps = new_keeps s.journal up.made request body now allowed up.goes_on new is in
          let w = count_append (waits_on conn) s.parked (new ∷ []) in
          let c = count_append (was_on conn) s.parked (new ∷ []) in
          let wl = count_append (λ p. waits_on conn p && lost_place (state_of j) p) s.parked (new ∷ []) in
          let cl = count_append (λ p. was_on conn p && lost_place (state_of j) p) s.parked (new ∷ []) in
          let none : unit ((other == conn) && lost_place (state_of j) new) ≡ 0 = ap (λ b. unit ((other == conn) && b)) keeps ∙ never (other == conn) in
          let open_is = lost_is s up call allowed tt well entry (unended entry) (waits_on conn) in
          let shut_is = lost_is s up call allowed tt well entry (unended entry) (was_on conn) in
          record {
            on_open = omega (arith, f.on_open, w);
            gone = omega (arith, f.gone, wl, none, open_is);
            shut = omega (arith, f.shut, c, cl, shut_is);
            well = f.well;
            ended = f.ended;
          }
        where
          never : (b : Bool) → unit (b && false) ≡ 0
          never true = refl
          never false = refl

      arrived_fate : (reply : Arrived) → (arrive (state s) request body now).1 ≡ reply → FateOf (Arrives other request body) (arrived (with_journal s j) other reply)
      arrived_fate (arrivals.Answer bytes) is = answered_fate bytes
      arrived_fate (arrivals.Parked ticket) is = parked_fate ticket is
      arrived_fate arrivals.Over is = answered_fate _

    passes_fate : FateOf Passes (turn_at now Passes s)
    passes_fate = by (is_due (state s) now) refl
      where
        later : PlainLive
        later = with_journal s (after_call s.journal (Tick now))

        by : (b : Bool) → is_due (state s) now ≡ b
            → HasFate conn s.parked 0 (replaced_with (waits_on conn) s (if b then Some (within_limit (state s) Time now (Tick now)) else None))
            (replaced_with (was_on conn) s (if b then Some (within_limit (state s) Time now (Tick now)) else None)) (turn_at now Passes s).lines (turn_at now Passes s).after
        by true due = subst (λ reply. HasFate conn s.parked 0 (replaced_with (waits_on conn) s (Some (within_limit (state s) Time now (Tick now))))
            (replaced_with (was_on conn) s (Some (within_limit (state s) Time now (Tick now)))) (ticked s later reply).lines (ticked s later reply).after) (sym (changed_is (state s) now due))
            (called_fate s up (Tick now) tt tt well (within_limit (state s) Time now (Tick now)) (ap (λ b. if b then Some (within_limit (state s) Time now (Tick now)) else None) due) [] none_aside)
        by false none = subst (λ reply. HasFate conn s.parked 0 0 0 (ticked s later reply).lines (ticked s later reply).after) (sym (quiet_is (state s) now none)) (record {
          on_open = omega arith;
          gone = refl;
          shut = omega arith;
          well = well;
          ended = λ over. absurd (true_false (sym over ∙ up.goes_on));
        })

    -- whatever comes to a session
    pub turn_fate : (event : Event) → IsEvent event → FateOf event (turn_at now event s)
    turn_fate (Arrives other request body) allowed = arrived_fate other request body allowed (arrive (state s) request body now).1 refl
    turn_fate (Gives stream stanza) allowed =
        let e : Entered = within_limit (state s) ServerStanza now (Back stream stanza now) in
        let reply : Taken = (back (state s) stream stanza now).1 in
        refused_fate s 0 _ _ (refusal_of_back s.number reply) (told (with_journal s (after_call s.journal (Back stream stanza now))) [])
        (back_none (is_out conn) (λ n r. refl) s.number reply) (back_none (is_gone conn) (λ n r. refl) s.number reply) (back_none (is_lost conn) (λ n r. refl) s.number reply)
        (called_fate s up (Back stream stanza now) allowed tt well e (unended e) [] none_aside)
    turn_fate (Shuts stream closing) allowed =
        let e : Entered = within_limit (state s) ServerClosing now (BackClosed stream closing now) in
        let reply : Taken = (back_closed (state s) stream closing now).1 in
        refused_fate s 0 _ _ (refusal_of_shut s.number reply) (told (with_journal s (after_call s.journal (BackClosed stream closing now))) [])
        (shut_none (is_out conn) (λ n r. refl) s.number reply) (shut_none (is_gone conn) (λ n r. refl) s.number reply) (shut_none (is_lost conn) (λ n r. refl) s.number reply)
        (called_fate s up (BackClosed stream closing now) tt tt well e (unended e) [] none_aside)
    turn_fate Passes allowed = passes_fate
