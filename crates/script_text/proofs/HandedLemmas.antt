-- What a line of the server hands to a session it was given, or the report says that it was refused, and then nothing but its entry tells of it.
use Rattle.std.proofs.Common.{◌≡◌, ℕ, zero, suc, ◌+◌, ◌==◌, ◌||◌, Bool, true, false, not, List, [], ◌∷◌, ◌++◌, All, Option, Some, None, length, drop, take, map, refl, sym, subst, ◌∙◌, ap, arith, inl, inr, if◌then◌else◌}
use Rattle.std.specs.Prelude.{⊤, ◌⊎◌, ◌&&◌, filter, nat_le, nat_lt, slice_get}
use Rattle.std.specs.List.{list_any}
use Rattle.std.proofs.lemmas.Bool.{eqb-false, eqb-true}
use Rattle.std.proofs.lemmas.List.{append-nil}
use Rattle.std.proofs.lemmas.List.Elements.{All-nil, All-cons, All-head, All-tail, All-append, All-weaker}
use Rattle.std.proofs.lemmas.List.Folds.{list_any-append, list_any_none}
use Rattle.bosh_types.specs.Limits.{most_sessions, most_openings}
use Rattle.bosh_types.specs.declared.ending.Closing.{Closing}
use Rattle.bosh_types.specs.declared.ending.Ending.{Ending}
use Rattle.bosh_types.specs.declared.hosts.HostName.{HostName}
use Rattle.bosh_types.specs.declared.inward.Inward.{Inward}
use Rattle.session_attrs.specs.declared.admission.Admitted.{Admitted}
use Rattle.session_attrs.specs.declared.admission.Admitted.TheVariants as admitted
use Rattle.session_attrs.specs.declared.request.Creation.{Creation}
use Rattle.session_attrs.specs.declared.request.Kind.{Kind}
use Rattle.session_attrs.specs.declared.request.Kind.TheVariants as kinds
use Rattle.session_attrs.specs.declared.request.Request.{Request}
use Rattle.session_attrs.specs.Admission.{admitted_of}
use Rattle.session_core.specs.declared.outward.Outward.{Outward}
use Rattle.session_core.specs.declared.outward.Outward.TheVariants.{Stanza, Close as Closes}
use Rattle.session_core.specs.declared.replies.Arrived.{Arrived}
use Rattle.session_core.specs.declared.replies.Arrived.TheVariants as arrivals
use Rattle.session_core.specs.declared.replies.Collected.{Collected}
use Rattle.session_core.specs.declared.replies.Collected.TheVariants as collections
use Rattle.session_core.specs.declared.replies.Taken.{Taken}
use Rattle.session_core.specs.declared.replies.Taken.TheVariants as takings
use Rattle.session_core.specs.declared.replies.Ticked.{Ticked}
use Rattle.session_core.specs.declared.replies.Ticked.TheVariants.{Changed, Quiet}
use Rattle.session_core.specs.Copy.{unnamed}
use Rattle.session_core.specs.Journal.{Call, Arrive, Back, BackClosed, Collect, Tick, TakeInward, Entered, Made, Limit, Entry, Journal, ToBack, ToCollect, ToTakeInward, after_entries, after_entry, state_of}
use Rattle.session_core.specs.Machine.{arrive, back, back_closed, collect, full_with, has_room, is_full, opened, passed_on, plain_cost, stanza_cost, take_inward, takes_items, tick, with_cost}
use Rattle.session_core.specs.Answers.{settled}
use Rattle.session_core.specs.State.{PlainSession, Issued, inward, is_over}
use Rattle.session_core.specs.Time.{time_applied}
use Rattle.session_laws.proofs.Frames.{settled_leaves, time_leaves}
use Rattle.session_laws.proofs.Grows.{after_append}
use Rattle.session_laws.proofs.Lists.{get_some}
use Rattle.session_laws.proofs.Tests.{if_false, if_true, none_some, some_is, split, true_false}
use Rattle.session_calls.specs.After.{after_call, all_taken, untaken}
use Rattle.script_text.specs.declared.event.Event.{Event}
use Rattle.script_text.specs.declared.event.Event.TheVariants.{Arrives, Gives, Shuts, Passes}
use Rattle.script_text.specs.declared.line.BadKind.{BadKind}
use Rattle.script_text.specs.declared.line.BadKind.TheVariants.{Connection, Grammar, Session, Time}
use Rattle.script_text.specs.declared.line.LineRead.{LineRead}
use Rattle.script_text.specs.declared.line.LineRead.TheVariants.{Line, BadLine}
use Rattle.script_text.specs.declared.line.ScriptLine.{ScriptLine}
use Rattle.script_text.specs.declared.line.ScriptLine.TheVariants as lines
use Rattle.script_text.specs.declared.live.Parked.{Parked}
use Rattle.script_text.specs.declared.report.Refusal.{Refusal}
use Rattle.script_text.specs.declared.report.Refusal.TheVariants.{BackFull, BackOver, ShutOver}
use Rattle.script_text.specs.declared.report.ReportLine.{ReportLine}
use Rattle.script_text.specs.declared.report.ReportLine.TheVariants.{In, Out, Lost, Gone, Refused, Over, Done, Bad}
use Rattle.script_text.specs.Answered.{over_bodies, sessions_after, stages_by}
use Rattle.script_text.specs.Entered.{IsOneOf, IsOwn, is_bad}
use Rattle.script_text.specs.Handed.{Handing, Hands, IsHanded, IsHandedTo, IsSameBut, handing_in, handing_of, is_refused, without_it}
use Rattle.script_text.specs.Headline.{manager_of}
use Rattle.script_text.specs.Live.{PlainLive, Turn, answer_line, arrived, collected_lines, fate, fate_lines, if_live, if_over, not_found, over_lines, refusal_of_back, refusal_of_shut, refused_first, settled_after, state, ticked, told, turn_at, with_journal, with_parked}
use Rattle.script_text.specs.Manager.{PlainManager, Change, admitted_to, at_host, closed, comes, comes_at, comes_to, is_waiting, new_manager, number_of, only, opened_live, opened_turn, opening_by, passed, passed_lines, place_of, posted, posted_as, posted_by, request_in, turned_at, with_opened}
use Rattle.script_text.specs.Script.{PlainRun, Beginning, Arrivals, Bodies, Step, arrival_step, bad_step, begun, body_step, change_step, done_step, first_step, host_alone, Goes, with_host, creation_text, request_text, is_told, server_step, step_by, takes_host, was_given}
use Rattle.script_text.proofs.HeadlineLemmas.{begun_holds}
use Rattle.script_text.proofs.JournalSteps.{after_is, called_state, collect_same}
use Rattle.script_text.proofs.LaterLemmas.{turn_later}
use Rattle.script_text.proofs.OneOfLemmas.{one_back, one_front}
use Rattle.script_text.proofs.OwnLemmas.{Owns, told_owns}
use Rattle.script_text.proofs.PositionLemmas.{none_there, position_none, some_within}
use Rattle.script_text.proofs.PostedLemmas.{number_at}
use Rattle.script_text.proofs.ReportLemmas.{Holds}
use Rattle.script_text.proofs.SessionsLemmas.{GoesOn, TellsAll, all_at, all_back, all_front, apart, place_splits}
use Rattle.script_text.proofs.StageLemmas.{OfEach, every_stage}
use Rattle.script_text.proofs.StandsLemmas.{if_one}
use Rattle.script_text.proofs.ToldLemmas.{same_number}
use Rattle.script_text.proofs.TurnLemmas.{comes_turn}

-- What is taken and collected changes nothing else.

same_none : (s : PlainSession) → IsSameBut s s
same_none s = (s.passed, s.tickets, refl)

same_on : (one two three : PlainSession) → IsSameBut one two → IsSameBut two three → IsSameBut one three
same_on one two three (passed, tickets, is) (more, others, then_is) = (more, others, then_is ∙ ap (λ (u : PlainSession). record u { passed = more; tickets = others }) is)

taken_same : (s : PlainSession) (o : Option Inward) → IsSameBut s (passed_on s o).0
taken_same s None = same_none s
taken_same s (Some item) = (s.passed + 1, s.tickets, refl)

own_same : (s : PlainSession) (entered : Entered) → IsOwn (record { caller = 0; entered = entered }) → IsSameBut s (after_entry s entered)
own_same s (Made (Arrive request body now)) own = absurd own
own_same s (Made (Collect ticket)) own =
    let one = collect_same s ticket in
    (s.passed, one.0, called_state ToCollect (collect s ticket) ∙ one.1)
own_same s (Made (Back stream stanza now)) own = absurd own
own_same s (Made (BackClosed stream closing now)) own = absurd own
own_same s (Made (Tick now)) own = absurd own
own_same s (Made TakeInward) own =
    subst (IsSameBut s) (sym (called_state ToTakeInward (take_inward s))) (taken_same s (slice_get (inward s) s.passed))
own_same s (Limit kind cost now) own = absurd own

owns_same : (rest : List Entry) (s : PlainSession) → All IsOwn rest → IsSameBut s (after_entries s rest)
owns_same [] s own = same_none s
owns_same (entry ∷ rest) s own = same_on s (after_entry s entry.entered) (after_entries (after_entry s entry.entered) rest)
    (own_same s entry.entered (All-head IsOwn entry rest own)) (owns_same rest (after_entry s entry.entered) (All-tail IsOwn entry rest own))

journal_same : (before after : Journal) → Owns before after → IsSameBut (state_of before) (state_of after)
journal_same before after (rest, is, own) =
    subst (IsSameBut (state_of before)) (sym (ap state_of is ∙ after_append (opened before.opening) before.entries rest)) (owns_same rest (state_of before) own)

-- Lines that say of nothing that it was refused.

abbrev NoneRefused : List ReportLine → Type 0
NoneRefused lines = (n : ℕ) → list_any (is_refused n) lines ≡ false

none_append : (xs ys : List ReportLine) → NoneRefused xs → NoneRefused ys → NoneRefused (xs ++ ys)
none_append xs ys x_none y_none n = list_any-append (is_refused n) xs ys ∙ ap (λ b. b || list_any (is_refused n) ys) (x_none n) ∙ y_none n

none_items : (number : ℕ) (items : List Inward) → NoneRefused (map (In number) items)
none_items number [] n = refl
none_items number (item ∷ items) n = none_items number items n

none_answer : (is_open : Bool) (conn : ℕ) (body : List ℕ) → NoneRefused ((if is_open then Out conn body else Lost conn) ∷ [])
none_answer true conn body n = refl
none_answer false conn body n = refl

none_gone : (is_open : Bool) (conn : ℕ) → NoneRefused (if is_open then Gone conn ∷ [] else [])
none_gone true conn n = refl
none_gone false conn n = refl

none_fate : (parked : Parked) (reply : Collected) → NoneRefused (fate_lines parked reply)
none_fate parked (collections.Answer body) = none_answer parked.is_open parked.conn body
none_fate parked collections.NotYet = λ n. refl
none_fate parked collections.Superseded = none_gone parked.is_open parked.conn
none_fate parked collections.UnknownTicket = λ n. refl

none_collected : (parked : List Parked) (journal : Journal) → NoneRefused (collected_lines journal parked)
none_collected [] journal = λ n. refl
none_collected (first ∷ parked) journal = none_append (fate_lines first (fate journal first)) (collected_lines (after_call journal (Collect first.ticket)) parked)
    (none_fate first (fate journal first)) (none_collected parked (after_call journal (Collect first.ticket)))

none_over : (number : ℕ) (ending : Option Ending) → NoneRefused (over_lines number ending)
none_over number None n = refl
none_over number (Some ending) n = refl

none_told : (s : PlainLive) (answer : List ReportLine) → NoneRefused answer → NoneRefused (told s answer).lines
none_told s answer none =
    let lines : List ReportLine = collected_lines (all_taken s.journal) s.parked in
    let last : List ReportLine = over_lines s.number (state (settled_after s)).ending in
    none_append (map (In s.number) (untaken s.journal)) (answer ++ (lines ++ last)) (none_items s.number (untaken s.journal))
    (none_append answer (lines ++ last) none (none_append lines last (none_collected s.parked (all_taken s.journal)) (none_over s.number (state (settled_after s)).ending)))

none_arrived : (s : PlainLive) (conn : ℕ) (reply : Arrived) → NoneRefused (arrived s conn reply).lines
none_arrived s conn (arrivals.Answer body) = none_told s (Out conn body ∷ []) (λ n. refl)
none_arrived s conn (arrivals.Parked ticket) = none_told (with_parked s ticket conn) [] (λ n. refl)
none_arrived s conn arrivals.Over = none_told s (not_found conn ∷ []) (λ n. refl)

none_ticked : (s after : PlainLive) (reply : Ticked) → NoneRefused (ticked s after reply).lines
none_ticked s after Quiet = λ n. refl
none_ticked s after Changed = none_told after [] (λ n. refl)

none_passed : (now : ℕ) (live : List PlainLive) → NoneRefused (passed_lines now live)
none_passed now [] = λ n. refl
none_passed now (s ∷ live) = none_append (turn_at now Passes s).lines (passed_lines now live)
    (none_ticked s (with_journal s (after_call s.journal (Tick now))) (tick (state s) now).1) (none_passed now live)

-- What a session does with what it is handed.

given_by_time : (s : PlainSession) (now : ℕ) → (time_applied s now).given ≡ s.given
given_by_time s now = ap (λ (u : PlainSession). u.given) (time_leaves s now)

given_without : (s : PlainSession) (now cost : ℕ) → (without_it s now cost).given ≡ s.given
given_without s now cost = split (λ (u : PlainSession). u.given ≡ s.given) (is_full s cost) _ _ (λ full. refl) (λ room. given_by_time s now)

-- it is given, and no line says that it was refused; or one says so, and it is as if it hadn't come
abbrev Does : (Taken → List ReportLine) → ℕ → PlainSession → Outward → ℕ → ℕ → PlainSession × Taken → Type 0
Does refusal n s item now cost r =
    ((list_any (is_refused n) (refusal r.1) ≡ false) × (r.0.given ≡ s.given ++ item ∷ []))
    ⊎ ((list_any (is_refused n) (refusal r.1) ≡ true) × (r.0 ≡ without_it s now cost))

says : (n : ℕ) (refusal : Refusal) → list_any (is_refused n) (Refused n refusal ∷ []) ≡ true
says n refusal = ap (λ b. b || false) (same_number n)

module _ (n : ℕ) (s : PlainSession) (on : is_over s ≡ false) (now : ℕ) where
  taken_item : (t : PlainSession) (item : Outward) → t.given ≡ s.given → (settled (record t { given = t.given ++ item ∷ [] })).given ≡ s.given ++ item ∷ []
  taken_item t item same = ap (λ (u : PlainSession). u.given) (settled_leaves (record t { given = t.given ++ item ∷ [] })) ∙ ap (λ given. given ++ item ∷ []) same

  back_does : (stream : ℕ) (stanza : List ℕ) → Does (refusal_of_back n) n s (Stanza stream stanza) now (stanza_cost stanza) (back s stream stanza now)
  back_does stream stanza =
      let cost : ℕ = stanza_cost stanza in
      let t : PlainSession = with_cost cost (time_applied s now) in
      let P = Does (refusal_of_back n) n s (Stanza stream stanza) now cost in
      split P (is_over s) _ _ (λ over. absurd (true_false (sym over ∙ on)))
      (λ goes. split P (is_full s cost) _ _ (λ full. inr (says n BackOver, sym (if_true (is_full s cost) _ _ full)))
      (λ room. split P (not (takes_items t stream)) _ _ (λ none. inr (says n BackOver, sym (if_false (is_full s cost) _ _ room)))
      (λ takes. split P (has_room t stanza) _ _ (λ fits. inl (refl, taken_item t (Stanza stream stanza) (given_by_time s now)))
      (λ many. inr (says n BackFull, sym (if_false (is_full s cost) _ _ room))))))

  shut_does : (stream : ℕ) (closing : Closing) → Does (refusal_of_shut n) n s (Closes stream closing) now plain_cost (back_closed s stream closing now)
  shut_does stream closing =
      let t : PlainSession = with_cost plain_cost (time_applied s now) in
      let P = Does (refusal_of_shut n) n s (Closes stream closing) now plain_cost in
      split P (is_over s) _ _ (λ over. absurd (true_false (sym over ∙ on)))
      (λ goes. split P (is_full s plain_cost) _ _ (λ full. inr (says n ShutOver, sym (if_true (is_full s plain_cost) _ _ full)))
      (λ room. split P (takes_items t stream) _ _ (λ takes. inl (refl, taken_item t (Closes stream closing) (given_by_time s now)))
      (λ none. inr (says n ShutOver, sym (if_false (is_full s plain_cost) _ _ room)))))

-- what a turn tells of it
module _ (s : PlainLive) (on : is_over (state s) ≡ false) (now : ℕ) (call : Call) (h : Handing) (refusal : Taken → List ReportLine) (r : PlainSession × Taken)
    (steps : state_of (after_call s.journal call) ≡ r.0) (does : Does refusal s.number (state s) h.item now h.cost r) where
  abbrev turned : Turn
  turned = refused_first (refusal r.1) (told (with_journal s (after_call s.journal call)) [])

  abbrev after_turn : PlainLive
  after_turn = turned.after

  same : IsSameBut r.0 (state after_turn)
  same = subst (λ u. IsSameBut u (state after_turn)) steps (journal_same (after_call s.journal call) after_turn.journal (told_owns (with_journal s (after_call s.journal call)) []))

  refused_in : (n : ℕ) → list_any (is_refused n) turned.lines ≡ list_any (is_refused n) (refusal r.1)
  refused_in n =
      list_any-append (is_refused n) (refusal r.1) (told (with_journal s (after_call s.journal call)) []).lines
      ∙ ap (λ b. list_any (is_refused n) (refusal r.1) || b) (none_told (with_journal s (after_call s.journal call)) [] (λ k. refl) n)
      ∙ or_false (list_any (is_refused n) (refusal r.1))
    where
      or_false : (b : Bool) → b || false ≡ b
      or_false true = refl
      or_false false = refl

  given_same : (state after_turn).given ≡ r.0.given
  given_same = ap (λ (u : PlainSession). u.given) same.2

  turn_hands : Hands h now turned.lines s after_turn
  turn_hands = elim does [
    | inl taken ↦
        let not_so : list_any (is_refused s.number) turned.lines ≡ false = refused_in s.number ∙ taken.0 in
        record {
          given = given_same ∙ taken.1 ∙ ap (λ b. (state s).given ++ (if b then [] else h.item ∷ [])) (sym not_so);
          refused = λ is. absurd (true_false (sym is ∙ not_so));
        }
    | inr refused ↦
        let is : list_any (is_refused s.number) turned.lines ≡ true = refused_in s.number ∙ refused.0 in
        record {
          given = given_same ∙ ap (λ (u : PlainSession). u.given) refused.1 ∙ given_without (state s) now h.cost ∙ sym (append-nil (state s).given)
              ∙ ap (λ b. (state s).given ++ (if b then [] else h.item ∷ [])) (sym is);
          refused = λ so. subst (λ u. IsSameBut u (state after_turn)) refused.1 same;
        }
  ]

-- A manager.

abbrev AllHanded : Handing → ℕ → List PlainLive → List ReportLine → List PlainLive → Type 0
AllHanded h now live lines after = All (λ s. number_of h.sid ≡ Some s.number → IsHandedTo h now lines after s) live

none_handed : (h : Handing) (now number : ℕ) (lines : List ReportLine) (after : List PlainLive) → number_of h.sid ≡ Some number → (live : List PlainLive)
    → All (λ s. (s.number == number) ≡ false) live → AllHanded h now live lines after
none_handed h now number lines after names live others = All-weaker (λ (s : PlainLive). (s.number == number) ≡ false) (λ s. number_of h.sid ≡ Some s.number → IsHandedTo h now lines after s)
    (λ s other is. absurd (eqb-false s.number number other (some_is s.number number (sym is ∙ names)))) live others

module _ (report : List ReportLine) (over : List PlainLive) (m : PlainManager) (holds : Holds report over m) (event : Event) (otherwise : ReportLine) (number : ℕ) (h : Handing)
    (names : number_of h.sid ≡ Some number)
    (hands : (s : PlainLive) → is_over (state s) ≡ false → Hands h m.moment (turn_at m.moment event s).lines s (turn_at m.moment event s).after) where
  abbrev Handed : Change → Type 0
  Handed change = AllHanded h m.moment m.live change.lines (change.over ++ change.after.live)

  turned_handed : (place : ℕ) (s : PlainLive) → slice_get m.live place ≡ Some s → s.number ≡ number → Handed (turned_at m place (turn_at m.moment event s))
  turned_handed place s is same =
      let turn : Turn = turn_at m.moment event s in
      let t : PlainLive = turn.after in
      let front : List PlainLive = take place m.live in
      let back : List PlainLive = drop (suc place) m.live in
      let next : suc place ≡ place + 1 = omega arith in
      let after : List PlainLive = if_over t ++ (front ++ (if_live t ++ back)) in
      let splits : m.live ≡ front ++ s ∷ back = place_splits m.live place s is in
      let tells = subst (λ l. TellsAll report over l m.opened) splits holds.tells in
      let up = (all_at (GoesOn report) m.live place s is holds.tells.going).up in
      let differ : All (λ x. (x.number == s.number) ≡ false) (front ++ back) = apart report over front back s (turn_at m.moment Passes s) m.opened tells (comes_turn s m.moment Passes up tt) in
      let others = subst (λ k. All (λ (x : PlainLive). (x.number == k) ≡ false) (front ++ back)) same differ in
      let P = λ (x : PlainLive). number_of h.sid ≡ Some x.number → IsHandedTo h m.moment turn.lines after x in
      let one : IsOneOf t after = elim (if_one t) [
        | inl ended ↦ one_front t (if_over t) (front ++ (if_live t ++ back)) ended
        | inr on ↦ one_back t (if_over t) (front ++ (if_live t ++ back)) (one_back t front (if_live t ++ back) (one_front t (if_live t) back on))
      ] in
      subst (λ n. AllHanded h m.moment m.live turn.lines (if_over t ++ (front ++ (if_live t ++ drop n m.live)))) next
      (subst (λ l. All P l) (sym splits)
      (All-append P front (s ∷ back) (none_handed h m.moment number turn.lines after names front (all_front (λ x. (x.number == number) ≡ false) front back others))
      (All-cons P s back (λ named. (t, one, (turn_later m.moment event s).number, hands s up.goes_on))
      (none_handed h m.moment number turn.lines after names back (all_back (λ x. (x.number == number) ≡ false) front back others)))))

  comes_handed : Handed (comes m event otherwise number)
  comes_handed = by (place_of m number) refl
    where
      at : (place : ℕ) → place_of m number ≡ Some place → (o : Option PlainLive) → slice_get m.live place ≡ o → Handed (comes_at m event otherwise place o)
      at place there None is =
          let some = get_some m.live place (some_within (λ s. s.number == number) m.live place there) in
          absurd (none_some (slice_get m.live place) some.0 is some.1)
      at place there (Some s) is = turned_handed place s is (number_at number m.live place s there is)

      by : (o : Option ℕ) → place_of m number ≡ o
          → Handed (elim o as (λ x. Change) [ None ↦ only m otherwise | Some place ↦ comes_at m event otherwise place (slice_get m.live place) ])
      by None is = none_handed h m.moment number (otherwise ∷ []) m.live names m.live (none_there (λ (s : PlainLive). s.number == number) m.live is)
      by (Some place) is = at place is (slice_get m.live place) refl

-- where none has the number
comes_absent : (m : PlainManager) (event : Event) (refusal : Refusal) (number : ℕ) → All (λ s. (s.number == number) ≡ false) m.live
    → list_any (is_refused number) (comes m event (Refused number refusal) number).lines ≡ true
comes_absent m event refusal number none =
    let absent : place_of m number ≡ None = position_none (λ (s : PlainLive). s.number == number) m.live (list_any_none (λ (s : PlainLive). s.number == number) m.live none) in
    ap (λ o. list_any (is_refused number) (elim o as (λ x. Change) [ None ↦ only m (Refused number refusal) | Some place ↦ comes_at m event (Refused number refusal) place (slice_get m.live place) ]).lines) absent
    ∙ says number refusal

-- What is said to be refused is of the session that the line names.

refused_of : (n k : ℕ) (refusal : Refusal) → list_any (is_refused k) (Refused n refusal ∷ []) ≡ true → k ≡ n
refused_of n k refusal is = by (n == k) refl is
  where
    by : (b : Bool) → (n == k) ≡ b → b || false ≡ true → k ≡ n
    by true alike one = sym (eqb-true n k alike)
    by false alike one = absurd (true_false (sym one))

back_of : (n k : ℕ) (reply : Taken) → list_any (is_refused k) (refusal_of_back n reply) ≡ true → k ≡ n
back_of n k takings.Done is = absurd (true_false (sym is))
back_of n k takings.Full is = refused_of n k BackFull is
back_of n k takings.Over is = refused_of n k BackOver is

shut_of : (n k : ℕ) (reply : Taken) → list_any (is_refused k) (refusal_of_shut n reply) ≡ true → k ≡ n
shut_of n k takings.Done is = absurd (true_false (sym is))
shut_of n k takings.Full is = absurd (true_false (sym is))
shut_of n k takings.Over is = refused_of n k ShutOver is

first_of : (lines : List ReportLine) (turn : Turn) (k : ℕ) → NoneRefused turn.lines → list_any (is_refused k) (refused_first lines turn).lines ≡ true → list_any (is_refused k) lines ≡ true
first_of lines turn k none is = by (list_any (is_refused k) lines) refl
  where
    by : (b : Bool) → list_any (is_refused k) lines ≡ b → b ≡ true
    by true any = refl
    by false any = sym (list_any-append (is_refused k) lines turn.lines ∙ ap (λ b. b || list_any (is_refused k) turn.lines) any ∙ none k) ∙ is

-- what may come of the server
abbrev IsOfServer : Event → Type 0
IsOfServer (Arrives conn request body) = ⊥
IsOfServer (Gives stream stanza) = ⊤
IsOfServer (Shuts stream closing) = ⊤
IsOfServer Passes = ⊥

turn_of : (now : ℕ) (event : Event) (s : PlainLive) (k : ℕ) → IsOfServer event → list_any (is_refused k) (turn_at now event s).lines ≡ true → k ≡ s.number
turn_of now (Arrives conn request body) s k server is = absurd server
turn_of now (Gives stream stanza) s k server is =
    let later : PlainLive = with_journal s (after_call s.journal (Back stream stanza now)) in
    back_of s.number k (back (state s) stream stanza now).1 (first_of (refusal_of_back s.number (back (state s) stream stanza now).1) (told later []) k (none_told later [] (λ n. refl)) is)
turn_of now (Shuts stream closing) s k server is =
    let later : PlainLive = with_journal s (after_call s.journal (BackClosed stream closing now)) in
    shut_of s.number k (back_closed (state s) stream closing now).1 (first_of (refusal_of_shut s.number (back_closed (state s) stream closing now).1) (told later []) k (none_told later [] (λ n. refl)) is)
turn_of now Passes s k server is = absurd server

comes_of : (m : PlainManager) (event : Event) (refusal : Refusal) (number k : ℕ) → IsOfServer event → list_any (is_refused k) (comes m event (Refused number refusal) number).lines ≡ true → k ≡ number
comes_of m event refusal number k server any = by (place_of m number) refl any
  where
    at : (place : ℕ) → place_of m number ≡ Some place → (o : Option PlainLive) → slice_get m.live place ≡ o
        → list_any (is_refused k) (comes_at m event (Refused number refusal) place o).lines ≡ true → k ≡ number
    at place there None is any = refused_of number k refusal any
    at place there (Some s) is any = turn_of m.moment event s k server any ∙ number_at number m.live place s there is

    by : (o : Option ℕ) → place_of m number ≡ o
        → list_any (is_refused k) (elim o as (λ x. Change) [ None ↦ only m (Refused number refusal) | Some place ↦ comes_at m event (Refused number refusal) place (slice_get m.live place) ]).lines ≡ true
        → k ≡ number
    by None is any = refused_of number k refusal any
    by (Some place) is any = at place is (slice_get m.live place) refl any

-- Other lines say of nothing that it was refused.

none_arrives : (m : PlainManager) (conn : ℕ) (body : List ℕ) (request : Request) (number : ℕ) → NoneRefused (comes m (Arrives conn request body) (not_found conn) number).lines
none_arrives m conn body request number = by (place_of m number)
  where
    at : (place : ℕ) (o : Option PlainLive) → NoneRefused (comes_at m (Arrives conn request body) (not_found conn) place o).lines
    at place None = λ n. refl
    at place (Some s) = none_arrived (with_journal s (after_call s.journal (Arrive request body m.moment))) conn (arrive (state s) request body m.moment).1

    by : (o : Option ℕ)
        → NoneRefused (elim o as (λ x. Change) [ None ↦ only m (not_found conn) | Some place ↦ comes_at m (Arrives conn request body) (not_found conn) place (slice_get m.live place) ]).lines
    by None = λ n. refl
    by (Some place) = at place (slice_get m.live place)

module _ (m : PlainManager) (conn : ℕ) (body : List ℕ) where
  none_at_host : (request : Request) (creation : Creation) (o : Option HostName) → NoneRefused (at_host m conn body request creation o).lines
  none_at_host request creation None = λ n. refl
  none_at_host request creation (Some host) = split (λ (change : Change). NoneRefused change.lines) (nat_lt (length m.live) most_sessions && nat_lt m.opened most_openings) _ _
      (λ room. none_told (opened_live (m.opened + 1) (opening_by host (m.opened + 1) body request creation m.moment)) (Out conn _ ∷ []) (λ n. refl))
      (λ full n. refl)

  none_admitted : (request : Request) (creation : Creation) (to : Admitted) → NoneRefused (admitted_to m conn body request creation to).lines
  none_admitted request creation admitted.Improper = λ n. refl
  none_admitted request creation admitted.Unknown = λ n. refl
  none_admitted request creation (admitted.Host place) = none_at_host request creation (slice_get m.hosts place)

  none_comes_to : (request : Request) (number : Option ℕ) → NoneRefused (comes_to m conn body request number).lines
  none_comes_to request None = λ n. refl
  none_comes_to request (Some number) = none_arrives m conn body request number

  none_kind : (request : Request) (kind : Kind) → NoneRefused (posted_by m conn body request kind).lines
  none_kind request (kinds.Later sid) = none_comes_to request (number_of sid)
  none_kind request (kinds.Creation creation) = none_admitted request creation (admitted_of request.to m.hosts)

  none_as : (o : Option Request) → NoneRefused (posted_as m conn body o).lines
  none_as None = λ n. refl
  none_as (Some request) = none_kind request request.kind

  none_posted : NoneRefused (posted m conn body).lines
  none_posted = none_as (request_in body)

none_reported : (told_so : List ReportLine) → NoneRefused (filter is_told told_so)
none_reported [] n = refl
none_reported (In session item ∷ others) n = none_reported others n
none_reported (Out conn body ∷ others) n = none_reported others n
none_reported (Lost conn ∷ others) n = none_reported others n
none_reported (Gone conn ∷ others) n = none_reported others n
none_reported (Refused session refusal ∷ others) n = none_reported others n
none_reported (Over session ending ∷ others) n = none_reported others n
none_reported (Done line ∷ others) n = none_reported others n
none_reported (Bad line kind ∷ others) n = none_reported others n

-- Lines.

module _ (m : PlainManager) (n : ℕ) where
  -- the line names the session that it says was refused
  abbrev Names : LineRead → Step → Type 0
  Names read step = (k : ℕ) → list_any (is_refused k) step.lines ≡ true → (h : Handing) × (handing_of read ≡ Some h) × (number_of h.sid ≡ Some k)

  none_names : (read : LineRead) (step : Step) → NoneRefused step.lines → Names read step
  none_names read step none k is = absurd (true_false (sym is ∙ none k))

  server_names : (read : LineRead) (h : Handing) → handing_of read ≡ Some h → (event : Event) → IsOfServer event → (refusal : Refusal) (number : Option ℕ) → number_of h.sid ≡ number
      → Names read (server_step m n event refusal (was_given m.opened number))
  server_names read h hands event server refusal None names = none_names read (bad_step n Session) (λ k. refl)
  server_names read h hands event server refusal (Some number) names =
      split (λ o. Names read (server_step m n event refusal o)) (nat_le number m.opened) _ _
      (λ few k is. (h, hands, names ∙ ap Some (sym (comes_of (begun m) event refusal number k server is))))
      (λ many. none_names read (bad_step n Session) (λ k. refl))

  body_names : (line : ScriptLine) → Names (Line line) (body_step m n line)
  body_names (lines.Open rid) = none_names (Line (lines.Open rid)) (bad_step n Grammar) (λ k. refl)
  body_names (lines.Short rid stanza) = none_names (Line (lines.Short rid stanza)) (bad_step n Grammar) (λ k. refl)
  body_names (lines.Host name greeting) = split (Names (Line (lines.Host name greeting))) (takes_host m name) _ _ (λ takes. none_names (Line (lines.Host name greeting)) (record { lines = []; next = Goes (Bodies (with_host m name greeting)); over = [] }) (λ k. refl)) (λ not. none_names (Line (lines.Host name greeting)) (bad_step n Grammar) (λ k. refl))
  body_names (lines.At moment) = split (Names (Line (lines.At moment))) (nat_lt moment m.moment) _ _ (λ back. none_names (Line (lines.At moment)) (bad_step n Time) (λ k. refl))
      (λ forth. none_names (Line (lines.At moment)) (change_step (passed m moment)) (none_passed moment m.live))
  body_names (lines.Post conn body) = split (Names (Line (lines.Post conn body))) (is_waiting m conn) _ _ (λ waits. none_names (Line (lines.Post conn body)) (bad_step n Connection) (λ k. refl))
      (λ free. none_names (Line (lines.Post conn body)) (change_step (posted (begun m) conn body)) (none_posted (begun m) conn body))
  body_names (lines.Close conn) = split (Names (Line (lines.Close conn))) (is_waiting m conn) _ _ (λ waits. none_names (Line (lines.Close conn)) (change_step (closed (begun m) conn)) (λ k. refl)) (λ free. none_names (Line (lines.Close conn)) (bad_step n Connection) (λ k. refl))
  body_names (lines.Back sid stream stanza) = server_names (Line (lines.Back sid stream stanza)) (record { sid = sid; item = Stanza stream stanza; cost = stanza_cost stanza }) refl (Gives stream stanza) tt BackOver (number_of sid) refl
  body_names (lines.Shut sid stream closing) = server_names (Line (lines.Shut sid stream closing)) (record { sid = sid; item = Closes stream closing; cost = plain_cost }) refl (Shuts stream closing) tt ShutOver (number_of sid) refl
  body_names lines.End = none_names (Line lines.End) (done_step n) (λ k. refl)

  arrival_names : (line : ScriptLine) → Names (Line line) (arrival_step m n line)
  arrival_names (lines.Open rid) = none_names (Line (lines.Open rid)) (bad_step n Grammar) (λ k. refl)
  arrival_names (lines.Short rid stanza) = none_names (Line (lines.Short rid stanza)) (arrival_step m n (lines.Short rid stanza)) (none_reported (posted m 0 (request_text rid stanza)).lines)
  arrival_names (lines.Host name greeting) = none_names (Line (lines.Host name greeting)) (bad_step n Grammar) (λ k. refl)
  arrival_names (lines.At moment) = none_names (Line (lines.At moment)) (bad_step n Grammar) (λ k. refl)
  arrival_names (lines.Post conn body) = none_names (Line (lines.Post conn body)) (bad_step n Grammar) (λ k. refl)
  arrival_names (lines.Close conn) = none_names (Line (lines.Close conn)) (bad_step n Grammar) (λ k. refl)
  arrival_names (lines.Back sid stream stanza) = none_names (Line (lines.Back sid stream stanza)) (bad_step n Grammar) (λ k. refl)
  arrival_names (lines.Shut sid stream closing) = none_names (Line (lines.Shut sid stream closing)) (bad_step n Grammar) (λ k. refl)
  arrival_names lines.End = none_names (Line lines.End) (done_step n) (λ k. refl)

first_names : (n : ℕ) (line : ScriptLine) → Names new_manager n (Line line) (first_step n line)
first_names n (lines.Open rid) = none_names new_manager n (Line (lines.Open rid)) (first_step n (lines.Open rid)) (none_reported (posted host_alone 0 (creation_text rid)).lines)
first_names n (lines.Short rid stanza) = none_names new_manager n (Line (lines.Short rid stanza)) (bad_step n Grammar) (λ k. refl)
first_names n (lines.Host name greeting) = body_names new_manager n (lines.Host name greeting)
first_names n (lines.At moment) = body_names new_manager n (lines.At moment)
first_names n (lines.Post conn body) = body_names new_manager n (lines.Post conn body)
first_names n (lines.Close conn) = body_names new_manager n (lines.Close conn)
first_names n (lines.Back sid stream stanza) = body_names new_manager n (lines.Back sid stream stanza)
first_names n (lines.Shut sid stream closing) = body_names new_manager n (lines.Shut sid stream closing)
first_names n lines.End = none_names new_manager n (Line lines.End) (done_step n) (λ k. refl)

read_names : (run : PlainRun) (n : ℕ) (read : LineRead) → Names (manager_of run) n read (step_by run n read)
read_names run n (BadLine kind) = none_names (manager_of run) n (BadLine kind) (bad_step n kind) (λ k. refl)
read_names Beginning n (Line line) = first_names n line
read_names (Arrivals m) n (Line line) = arrival_names m n line
read_names (Bodies m) n (Line line) = body_names m n line

-- what a line of the server does to the sessions of a manager
module _ (m : PlainManager) (n : ℕ) (h : Handing) where
  abbrev Tells : Step → Type 0
  Tells step = list_any is_bad step.lines ≡ false → (number : ℕ) → number_of h.sid ≡ Some number → All (λ s. (s.number == number) ≡ false) m.live → list_any (is_refused number) step.lines ≡ true

  server_tells : (event : Event) (refusal : Refusal) (o : Option ℕ) → number_of h.sid ≡ o → Tells (server_step m n event refusal (was_given m.opened o))
  server_tells event refusal None names = λ heard. absurd (true_false heard)
  server_tells event refusal (Some k) names = split (λ o. Tells (server_step m n event refusal o)) (nat_le k m.opened) _ _
      (λ few heard number is none.
      let same : k ≡ number = some_is k number (sym names ∙ is) in
      subst (λ i. list_any (is_refused number) (comes (begun m) event (Refused i refusal) i).lines ≡ true) (sym same) (comes_absent (begun m) event refusal number none))
      (λ many heard. absurd (true_false heard))

  module _ (report : List ReportLine) (over : List PlainLive) (holds : Holds report over m) where
    abbrev Hears : Step → Type 0
    Hears step = list_any is_bad step.lines ≡ false → AllHanded h m.moment m.live step.lines (sessions_after (Bodies m) step)

    server_hands : (event : Event) (refusal : Refusal)
        → ((s : PlainLive) → is_over (state s) ≡ false → Hands h m.moment (turn_at m.moment event s).lines s (turn_at m.moment event s).after)
        → (o : Option ℕ) → number_of h.sid ≡ o → Hears (server_step m n event refusal (was_given m.opened o))
    server_hands event refusal hands None names = λ heard. absurd (true_false heard)
    server_hands event refusal hands (Some number) names = split (λ o. Hears (server_step m n event refusal o)) (nat_le number m.opened) _ _
        (λ few heard. comes_handed report over (begun m) (begun_holds report over m holds) event (Refused number refusal) number h names hands)
        (λ many heard. absurd (true_false heard))

handed_back : (sid : List ℕ) (stream : ℕ) (stanza : List ℕ) (now : ℕ) (s : PlainLive) → is_over (state s) ≡ false
    → Hands (record { sid = sid; item = Stanza stream stanza; cost = stanza_cost stanza }) now (turn_at now (Gives stream stanza) s).lines s (turn_at now (Gives stream stanza) s).after
handed_back sid stream stanza now s on =
    let r : PlainSession × Taken = back (state s) stream stanza now in
    turn_hands s on now (Back stream stanza now) (record { sid = sid; item = Stanza stream stanza; cost = stanza_cost stanza }) (refusal_of_back s.number) r
    (after_is s.journal (Back stream stanza now) ∙ called_state ToBack r) (back_does s.number (state s) on now stream stanza)

handed_shut : (sid : List ℕ) (stream : ℕ) (closing : Closing) (now : ℕ) (s : PlainLive) → is_over (state s) ≡ false
    → Hands (record { sid = sid; item = Closes stream closing; cost = plain_cost }) now (turn_at now (Shuts stream closing) s).lines s (turn_at now (Shuts stream closing) s).after
handed_shut sid stream closing now s on =
    let r : PlainSession × Taken = back_closed (state s) stream closing now in
    turn_hands s on now (BackClosed stream closing now) (record { sid = sid; item = Closes stream closing; cost = plain_cost }) (refusal_of_shut s.number) r
    (after_is s.journal (BackClosed stream closing now) ∙ called_state ToBack r) (shut_does s.number (state s) on now stream closing)

some_handing : (one other : Handing) → Some one ≡ Some other → one ≡ other
some_handing one other is = cc

line_hands : (report : List ReportLine) (over : List PlainLive) (m : PlainManager) → Holds report over m → (n : ℕ) (h : Handing) (line : ScriptLine) → handing_in line ≡ Some h
    → list_any is_bad (body_step m n line).lines ≡ false → AllHanded h m.moment m.live (body_step m n line).lines (sessions_after (Bodies m) (body_step m n line))
line_hands report over m holds n h (lines.Open rid) is = absurd (cc)
line_hands report over m holds n h (lines.Short rid stanza) is = absurd (cc)
line_hands report over m holds n h (lines.Host name greeting) is = absurd (cc)
line_hands report over m holds n h (lines.At moment) is = absurd (cc)
line_hands report over m holds n h (lines.Post conn body) is = absurd (cc)
line_hands report over m holds n h (lines.Close conn) is = absurd (cc)
line_hands report over m holds n h (lines.Back sid stream stanza) is =
    subst (λ k. Hears m n k report over holds (body_step m n (lines.Back sid stream stanza))) (some_handing _ h is)
    (server_hands m n (record { sid = sid; item = Stanza stream stanza; cost = stanza_cost stanza }) report over holds (Gives stream stanza) BackOver (handed_back sid stream stanza m.moment) (number_of sid) refl)
line_hands report over m holds n h (lines.Shut sid stream closing) is =
    subst (λ k. Hears m n k report over holds (body_step m n (lines.Shut sid stream closing))) (some_handing _ h is)
    (server_hands m n (record { sid = sid; item = Closes stream closing; cost = plain_cost }) report over holds (Shuts stream closing) ShutOver (handed_shut sid stream closing m.moment) (number_of sid) refl)
line_hands report over m holds n h lines.End is = absurd (cc)

line_tells : (m : PlainManager) (n : ℕ) (h : Handing) (line : ScriptLine) → handing_in line ≡ Some h → Tells m n h (body_step m n line)
line_tells m n h (lines.Open rid) is = absurd (cc)
line_tells m n h (lines.Short rid stanza) is = absurd (cc)
line_tells m n h (lines.Host name greeting) is = absurd (cc)
line_tells m n h (lines.At moment) is = absurd (cc)
line_tells m n h (lines.Post conn body) is = absurd (cc)
line_tells m n h (lines.Close conn) is = absurd (cc)
line_tells m n h (lines.Back sid stream stanza) is = server_tells m n h (Gives stream stanza) BackOver (number_of sid) (ap (λ (k : Handing). number_of k.sid) (sym (some_handing _ h is)))
line_tells m n h (lines.Shut sid stream closing) is = server_tells m n h (Shuts stream closing) ShutOver (number_of sid) (ap (λ (k : Handing). number_of k.sid) (sym (some_handing _ h is)))
line_tells m n h lines.End is = absurd (cc)

-- the first line of a script of bodies
first_tells : (n : ℕ) (h : Handing) (line : ScriptLine) → handing_in line ≡ Some h → Tells new_manager n h (first_step n line)
first_tells n h (lines.Open rid) is = absurd (cc)
first_tells n h (lines.Short rid stanza) is = absurd (cc)
first_tells n h (lines.Host name greeting) is = absurd (cc)
first_tells n h (lines.At moment) is = absurd (cc)
first_tells n h (lines.Post conn body) is = absurd (cc)
first_tells n h (lines.Close conn) is = absurd (cc)
first_tells n h (lines.Back sid stream stanza) is = line_tells new_manager n h (lines.Back sid stream stanza) is
first_tells n h (lines.Shut sid stream closing) is = line_tells new_manager n h (lines.Shut sid stream closing) is
first_tells n h lines.End is = absurd (cc)

stage_handed : OfEach IsHanded
stage_handed posted_so report over run holds n read well = record {
  live = λ m h before says heard. by_live run m h before holds read says heard;
  absent = λ m h number before says heard names none. by_absent run m h before read says heard number names none;
  named = read_names run n read;
}
  where
    by_live : (run : PlainRun) (m : PlainManager) (h : Handing) → over_bodies run ≡ Some m → Holds report over (manager_of run) → (read : LineRead) → handing_of read ≡ Some h
        → list_any is_bad (step_by run n read).lines ≡ false → AllHanded h m.moment m.live (step_by run n read).lines (sessions_after run (step_by run n read))
    by_live Beginning m h is holds read says heard =
        let same : new_manager ≡ m = some_is new_manager m is in
        subst (λ (k : PlainManager). AllHanded h m.moment k.live (step_by Beginning n read).lines (sessions_after Beginning (step_by Beginning n read))) same
        (All-nil (λ s. number_of h.sid ≡ Some s.number → IsHandedTo h m.moment (step_by Beginning n read).lines (sessions_after Beginning (step_by Beginning n read)) s))
    by_live (Arrivals k) m h is holds read says heard = absurd (cc)
    by_live (Bodies k) m h is holds (BadLine kind) says heard = absurd (cc)
    by_live (Bodies k) m h is holds (Line line) says heard =
        let same : k ≡ m = some_is k m is in
        subst (λ (j : PlainManager). AllHanded h j.moment j.live (body_step k n line).lines (sessions_after (Bodies k) (body_step k n line))) same
        (line_hands report over k holds n h line says heard)

    by_absent : (run : PlainRun) (m : PlainManager) (h : Handing) → over_bodies run ≡ Some m → (read : LineRead) → handing_of read ≡ Some h
        → list_any is_bad (step_by run n read).lines ≡ false → (number : ℕ) → number_of h.sid ≡ Some number → All (λ s. (s.number == number) ≡ false) m.live
        → list_any (is_refused number) (step_by run n read).lines ≡ true
    by_absent Beginning m h is (BadLine kind) says heard number names none = absurd (cc)
    by_absent Beginning m h is (Line line) says heard number names none = first_tells n h line says heard number names (All-nil (λ s. (s.number == number) ≡ false))
    by_absent (Arrivals k) m h is read says heard number names none = absurd (cc)
    by_absent (Bodies k) m h is (BadLine kind) says heard number names none = absurd (cc)
    by_absent (Bodies k) m h is (Line line) says heard number names none =
        let same : m ≡ k = sym (some_is k m is) in
        line_tells k n h line says heard number names (subst (λ (j : PlainManager). All (λ s. (s.number == number) ≡ false) j.live) same none)

pub lines_handed : (script : List ℕ) → All IsHanded (stages_by script)
lines_handed script = every_stage IsHanded stage_handed script
