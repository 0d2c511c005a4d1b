-- Whatever a line does to a manager, the journal of each session goes on from what it was.
use Rattle.std.proofs.Common.{◌≡◌, inl, inr, ℕ, zero, suc, ◌+◌, ◌≤◌, Bool, true, false, List, [], ◌∷◌, ◌++◌, All, Option, Some, None, length, drop, take, map, refl, sym, subst, ◌∙◌, ap, arith, append_assoc, if◌then◌else◌}
use Rattle.std.specs.Prelude.{◌⊎◌, ◌==◌, count_by, ◌&&◌, nat_lt, slice_get}
use Rattle.std.proofs.lemmas.List.{append-nil}
use Rattle.std.proofs.lemmas.List.Elements.{All-nil, All-cons, All-head, All-tail, All-map, All-append, All-drop, All-take, All-weaker}
use Rattle.bosh_types.specs.Limits.{most_sessions, most_openings}
use Rattle.bosh_types.specs.declared.hosts.HostName.{HostName}
use Rattle.session_attrs.specs.declared.admission.Admitted.{Admitted}
use Rattle.session_attrs.specs.declared.admission.Admitted.TheVariants as admitted
use Rattle.session_attrs.specs.declared.request.Creation.{Creation}
use Rattle.session_attrs.specs.declared.request.Kind.{Kind}
use Rattle.session_attrs.specs.declared.request.Kind.TheVariants as kinds
use Rattle.session_attrs.specs.declared.request.Request.{Request}
use Rattle.session_attrs.specs.Admission.{admitted_of}
use Rattle.session_core.specs.Journal.{Call, Arrive, Back, BackClosed, Collect, Tick, TakeInward, Entered, Journal, entered_by, state_of}
use Rattle.session_core.specs.Machine.{arrive, back, back_closed, tick}
use Rattle.session_core.specs.Copy.{unnamed}
use Rattle.session_core.specs.declared.opening.Opening.{Opening}
use Rattle.session_core.specs.declared.replies.Arrived.{Arrived}
use Rattle.session_core.specs.declared.replies.Arrived.TheVariants as arrivals
use Rattle.session_core.specs.declared.replies.Ticked.{Ticked}
use Rattle.session_core.specs.declared.replies.Ticked.TheVariants.{Changed, Quiet}
use Rattle.session_core.specs.State.{is_over}
use Rattle.session_journal.specs.Stored.{IsJournalOf}
use Rattle.session_laws.specs.Growing.{with_later}
use Rattle.session_laws.proofs.Tests.{split}
use Rattle.session_calls.specs.After.{after_call, all_taken, untaken, with_entered, with_taken}
use Rattle.journal_store.specs.Entries.{journal_in}
use Rattle.journal_store.specs.declared.reading.SessionEntry.{SessionEntry}
use Rattle.session_core.specs.Journal as plain
use Rattle.script_text.specs.declared.event.Event.{Event}
use Rattle.script_text.specs.declared.event.Event.TheVariants.{Arrives, Gives, Shuts, Passes}
use Rattle.script_text.specs.declared.line.BadKind.{BadKind}
use Rattle.script_text.specs.declared.line.BadKind.TheVariants.{Grammar, Connection, Session, Time}
use Rattle.script_text.specs.declared.line.LineRead.{LineRead}
use Rattle.script_text.specs.declared.line.LineRead.TheVariants.{Line, BadLine}
use Rattle.script_text.specs.declared.line.ScriptLine.{ScriptLine}
use Rattle.script_text.specs.declared.line.ScriptLine.TheVariants.{Open, Short, Host, At, Post, Close, Back as BackLine, Shut, End as LastLine}
use Rattle.script_text.specs.declared.live.Parked.{Parked}
use Rattle.script_text.specs.declared.report.Refusal.{Refusal}
use Rattle.script_text.specs.declared.report.Refusal.TheVariants.{BackOver, ShutOver}
use Rattle.script_text.specs.declared.report.ReportLine.{ReportLine}
use Rattle.script_text.specs.declared.report.ReportLine.TheVariants.{Out, Refused}
use Rattle.script_text.specs.Headline.{is_numbered, is_opened, manager_of}
use Rattle.script_text.specs.Kept.{HasJournal, IsBehind, IsBodies}
use Rattle.script_text.specs.Live.{PlainLive, Turn, all_collected, arrived, if_live, if_over, not_found, state, told, ticked, turn_at, with_journal, with_parked}
use Rattle.script_text.specs.Manager.{PlainManager, Change, only, closed, with_closed, number_of, place_of, turned_at, comes_at, comes, passed, passed_live, passed_over, opening_by, opened_live, opened_turn, with_opened, at_host, admitted_to, refused, request_in, comes_to, posted_by, posted_as, posted, is_waiting}
use Rattle.script_text.specs.Script.{PlainRun, Beginning, Arrivals, Bodies, PlainNext, Goes, Ends, Step, bad_step, done_step, begun, takes_host, with_host, was_given, server_step, body_step, arrival_change, host_alone, arrival_step, first_step, said_step, step_by, change_step, run_after}
use Rattle.script_text.proofs.LaterLemmas.{IsLater, same_grew, turn_later}
use Rattle.script_text.proofs.ReportLemmas.{closed_counts}
use Rattle.script_text.proofs.SessionsLemmas.{all_at, count_append, count_cons, either_counts, if_live-part, if_over-part, new_number, one_if, opened_more, place_splits}
use Rattle.script_text.proofs.ToldLemmas.{same_number}

later_behind : (entries : List SessionEntry) (s t : PlainLive) → HasJournal entries s → IsLater s t → IsBehind entries t
later_behind entries s t has later = inr (s.journal, subst (λ n. IsJournalOf (journal_in n entries) s.journal) (sym later.number) has, later.grew)

-- the sessions of a manager after a line, and those that ended with it: one has each number that one had before, or is new, and of
-- each the entries tell a beginning
pub record Continues (entries : List SessionEntry) (live : List PlainLive) (opened : ℕ) (over : List PlainLive) (after : PlainManager) : Type 0 where
  pub counts : (k : ℕ) → count_by (is_numbered k) over + count_by (is_numbered k) after.live + one_if (is_opened opened k)
      ≡ count_by (is_numbered k) live + one_if (is_opened after.opened k)
  pub over_behind : All (IsBehind entries) over
  pub live_behind : All (IsBehind entries) after.live
  pub more : opened ≤ after.opened
  pub few : after.opened ≤ opened + 1

after_counts : (k : ℕ) (s t : PlainLive) → t.number ≡ s.number → count_by (is_numbered k) (if_over t) + count_by (is_numbered k) (if_live t) ≡ count_by (is_numbered k) (s ∷ [])
after_counts k s t same = either_counts (is_numbered k) t ∙ ap (λ n. 0 + (if n == k then 1 else 0)) same

module _ (entries : List SessionEntry) where
  all_behind : (live : List PlainLive) → All (HasJournal entries) live → All (IsBehind entries) live
  all_behind live has = All-weaker (HasJournal entries) (IsBehind entries) (λ s h. later_behind entries s s h (record { number = refl; grew = same_grew s.journal })) live has

  -- time passes for all
  passed_over_behind : (now : ℕ) (live : List PlainLive) → All (HasJournal entries) live → All (IsBehind entries) (passed_over now live)
  passed_over_behind now [] has = All-nil (IsBehind entries)
  passed_over_behind now (s ∷ live) has = All-append (IsBehind entries) (if_over (turn_at now Passes s).after) (passed_over now live)
      (if_over-part (IsBehind entries) (turn_at now Passes s).after (λ is. later_behind entries s _ (All-head (HasJournal entries) s live has) (turn_later now Passes s)))
      (passed_over_behind now live (All-tail (HasJournal entries) s live has))

  passed_live_behind : (now : ℕ) (live : List PlainLive) → All (HasJournal entries) live → All (IsBehind entries) (passed_live now live)
  passed_live_behind now [] has = All-nil (IsBehind entries)
  passed_live_behind now (s ∷ live) has = All-append (IsBehind entries) (if_live (turn_at now Passes s).after) (passed_live now live)
      (if_live-part (IsBehind entries) (turn_at now Passes s).after (λ is. later_behind entries s _ (All-head (HasJournal entries) s live has) (turn_later now Passes s)))
      (passed_live_behind now live (All-tail (HasJournal entries) s live has))

passed_counts : (k now : ℕ) (live : List PlainLive) → count_by (is_numbered k) (passed_over now live) + count_by (is_numbered k) (passed_live now live) ≡ count_by (is_numbered k) live
passed_counts k now [] = refl
passed_counts k now (s ∷ live) =
    let p = is_numbered k in
    let t = (turn_at now Passes s).after in
    let a = count_append p (if_over t) (passed_over now live) in
    let b = count_append p (if_live t) (passed_live now live) in
    let c = after_counts k s t (turn_later now Passes s).number in
    let d = count_append p (s ∷ []) live in
    let e = passed_counts k now live in
    omega (arith, a, b, c, d, e)

module _ (entries : List SessionEntry) (m : PlainManager) (has : All (HasJournal entries) m.live)
    (none : (number : ℕ) → is_opened m.opened number ≡ false → journal_in number entries ≡ []) where
  -- the same sessions
  same_continues : (after : PlainManager) → after.live ≡ m.live → after.opened ≡ m.opened → Continues entries m.live m.opened [] after
  same_continues after live opened = record {
    counts = λ k.
        let a : count_by (is_numbered k) after.live ≡ count_by (is_numbered k) m.live = ap (count_by (is_numbered k)) live in
        let b : one_if (is_opened after.opened k) ≡ one_if (is_opened m.opened k) = ap (λ n. one_if (is_opened n k)) opened in
        omega (arith, a, b);
    over_behind = All-nil (IsBehind entries);
    live_behind = subst (All (IsBehind entries)) (sym live) (all_behind entries m.live has);
    more = omega (arith, opened);
    few = omega (arith, opened);
  }

  closed_continues : (conn : ℕ) → Continues entries m.live m.opened [] (closed m conn).after
  closed_continues conn = record {
    counts = λ k. let a = closed_counts conn k m.live in omega (arith, a);
    over_behind = All-nil (IsBehind entries);
    live_behind = All-map (IsBehind entries) (with_closed conn) m.live
        (All-weaker (HasJournal entries) (λ s. IsBehind entries (with_closed conn s)) (λ s h. later_behind entries s (with_closed conn s) h (record { number = refl; grew = same_grew s.journal })) m.live has);
    more = omega arith;
    few = omega arith;
  }

  passed_continues : (now : ℕ) → Continues entries m.live m.opened (passed m now).over (passed m now).after
  passed_continues now = record {
    counts = λ k. let a = passed_counts k now m.live in omega (arith, a);
    over_behind = passed_over_behind entries now m.live has;
    live_behind = passed_live_behind entries now m.live has;
    more = omega arith;
    few = omega arith;
  }

  module _ (event : Event) (otherwise : ReportLine) where
    turned_continues : (place : ℕ) (s : PlainLive) → slice_get m.live place ≡ Some s
        → Continues entries m.live m.opened (turned_at m place (turn_at m.moment event s)).over (turned_at m place (turn_at m.moment event s)).after
    turned_continues place s is =
        let t = (turn_at m.moment event s).after in
        let later = turn_later m.moment event s in
        let behind = later_behind entries s t (all_at (HasJournal entries) m.live place s is has) later in
        let old = all_behind entries m.live has in
        let next : suc place ≡ place + 1 = omega arith in
        record {
          counts = λ k.
              let p = is_numbered k in
              let a = count_append p (take place m.live) (if_live t ++ drop (place + 1) m.live) in
              let b = count_append p (if_live t) (drop (place + 1) m.live) in
              let c = after_counts k s t later.number in
              let d : count_by p m.live ≡ count_by p (take place m.live ++ (s ∷ drop (place + 1) m.live)) =
              ap (count_by p) (place_splits m.live place s is ∙ ap (λ n. take place m.live ++ (s ∷ drop n m.live)) next) in
              let e = count_append p (take place m.live) (s ∷ drop (place + 1) m.live) in
              let f = count_append p (s ∷ []) (drop (place + 1) m.live) in
              omega (arith, a, b, c, d, e, f);
          over_behind = if_over-part (IsBehind entries) t (λ over. behind);
          live_behind = All-append (IsBehind entries) (take place m.live) (if_live t ++ drop (place + 1) m.live) (All-take (IsBehind entries) place m.live old)
              (All-append (IsBehind entries) (if_live t) (drop (place + 1) m.live) (if_live-part (IsBehind entries) t (λ on. behind)) (All-drop (IsBehind entries) (place + 1) m.live old));
          more = omega arith;
          few = omega arith;
        }

    comes_at_continues : (place : ℕ) (o : Option PlainLive) → slice_get m.live place ≡ o
        → Continues entries m.live m.opened (comes_at m event otherwise place o).over (comes_at m event otherwise place o).after
    comes_at_continues place None is = same_continues m refl refl
    comes_at_continues place (Some s) is = turned_continues place s is

    abbrev change_at : Option ℕ → Change
    change_at o = elim o [ None ↦ only m otherwise | Some place ↦ comes_at m event otherwise place (slice_get m.live place) ]

    placed_continues : (o : Option ℕ) → Continues entries m.live m.opened (change_at o).over (change_at o).after
    placed_continues None = same_continues m refl refl
    placed_continues (Some place) = comes_at_continues place (slice_get m.live place) refl

    comes_continues : (number : ℕ) → Continues entries m.live m.opened (comes m event otherwise number).over (comes m event otherwise number).after
    comes_continues number = placed_continues (place_of m number)

  module _ (conn : ℕ) (body : List ℕ) (request : Request) where
    opened_continues : (o : Opening) → Continues entries m.live m.opened (with_opened m (m.opened + 1) (opened_turn (m.opened + 1) conn o)).over (with_opened m (m.opened + 1) (opened_turn (m.opened + 1) conn o)).after
    opened_continues o =
        let s : PlainLive = opened_live (m.opened + 1) o in
        let t = (opened_turn (m.opened + 1) conn o).after in
        let fresh : IsBehind entries t = inl (none (m.opened + 1) (new_number m.opened).0) in
        record {
          counts = λ k.
              let p = is_numbered k in
              let a = count_append p m.live (if_live t) in
              let b = after_counts k s t refl in
              let c = opened_more m.opened k in
              omega (arith, a, b, c);
          over_behind = if_over-part (IsBehind entries) t (λ over. fresh);
          live_behind = All-append (IsBehind entries) m.live (if_live t) (all_behind entries m.live has) (if_live-part (IsBehind entries) t (λ on. fresh));
          more = omega arith;
          few = omega arith;
        }

    abbrev ChangeContinues : Change → Type 0
    ChangeContinues change = Continues entries m.live m.opened change.over change.after

    at_host_continues : (creation : Creation) (o : Option HostName) → ChangeContinues (at_host m conn body request creation o)
    at_host_continues creation None = same_continues m refl refl
    at_host_continues creation (Some host) = split ChangeContinues (nat_lt (length m.live) most_sessions && nat_lt m.opened most_openings) _ _
        (λ room. opened_continues (opening_by host (m.opened + 1) body request creation m.moment))
        (λ full. same_continues m refl refl)

    admitted_continues : (creation : Creation) (to : Admitted) → ChangeContinues (admitted_to m conn body request creation to)
    admitted_continues creation admitted.Improper = same_continues m refl refl
    admitted_continues creation admitted.Unknown = same_continues m refl refl
    admitted_continues creation (admitted.Host place) = at_host_continues creation (slice_get m.hosts place)

    comes_to_continues : (number : Option ℕ) → ChangeContinues (comes_to m conn body request number)
    comes_to_continues None = same_continues m refl refl
    comes_to_continues (Some number) = comes_continues (Arrives conn request body) (not_found conn) number

    by_kind_continues : (kind : Kind) → ChangeContinues (posted_by m conn body request kind)
    by_kind_continues (kinds.Later sid) = comes_to_continues (number_of sid)
    by_kind_continues (kinds.Creation creation) = admitted_continues creation (admitted_of request.to m.hosts)

  posted_as_continues : (conn : ℕ) (body : List ℕ) (request : Option Request) → Continues entries m.live m.opened (posted_as m conn body request).over (posted_as m conn body request).after
  posted_as_continues conn body None = same_continues m refl refl
  posted_as_continues conn body (Some request) = by_kind_continues conn body request request.kind

  -- whatever body arrives
  posted_continues : (conn : ℕ) (body : List ℕ) → Continues entries m.live m.opened (posted m conn body).over (posted m conn body).after
  posted_continues conn body = posted_as_continues conn body (request_in body)

-- a line of a script

module _ (entries : List SessionEntry) (m : PlainManager) (has : All (HasJournal entries) m.live)
    (none : (number : ℕ) → is_opened m.opened number ≡ false → journal_in number entries ≡ []) where
  abbrev After : PlainRun → Step → Type 0
  After run step = Continues entries m.live m.opened step.over (manager_of (run_after run step.next))

  bad_continues : (run : PlainRun) → (manager_of run).live ≡ m.live → (manager_of run).opened ≡ m.opened → (n : ℕ) (kind : BadKind) → After run (bad_step n kind)
  bad_continues run live opened n kind = same_continues entries m has none (manager_of run) live opened

  server_continues : (n : ℕ) (event : Event) (refusal : Refusal) (number : Option ℕ) → After (Bodies m) (server_step m n event refusal number)
  server_continues n event refusal None = bad_continues (Bodies m) refl refl n Session
  server_continues n event refusal (Some number) = comes_continues entries (begun m) has none event (Refused number refusal) number

  body_continues : (n : ℕ) (line : ScriptLine) → After (Bodies m) (body_step m n line)
  body_continues n (Open rid) = bad_continues (Bodies m) refl refl n Grammar
  body_continues n (Short rid stanza) = bad_continues (Bodies m) refl refl n Grammar
  body_continues n (Host name greeting) = split (After (Bodies m)) (takes_host m name) _ _
      (λ takes. same_continues entries m has none (with_host m name greeting) refl refl)
      (λ not. bad_continues (Bodies m) refl refl n Grammar)
  body_continues n (At moment) = split (After (Bodies m)) (nat_lt moment m.moment) _ _
      (λ back. bad_continues (Bodies m) refl refl n Time)
      (λ forth. passed_continues entries m has none moment)
  body_continues n (Post conn body) = split (After (Bodies m)) (is_waiting m conn) _ _
      (λ waits. bad_continues (Bodies m) refl refl n Connection)
      (λ free. posted_continues entries (begun m) has none conn body)
  body_continues n (Close conn) = split (After (Bodies m)) (is_waiting m conn) _ _
      (λ waits. closed_continues entries (begun m) has none conn)
      (λ free. bad_continues (Bodies m) refl refl n Connection)
  body_continues n (BackLine sid stream stanza) = server_continues n (Gives stream stanza) BackOver (was_given m.opened (number_of sid))
  body_continues n (Shut sid stream closing) = server_continues n (Shuts stream closing) ShutOver (was_given m.opened (number_of sid))
  body_continues n LastLine = bad_continues (Bodies m) refl refl n Grammar

  pub read_continues : (n : ℕ) (read : LineRead) → After (Bodies m) (step_by (Bodies m) n read)
  read_continues n (Line line) = body_continues n line
  read_continues n (BadLine kind) = bad_continues (Bodies m) refl refl n kind

-- a script that tells of bodies goes on as such

server_bodies : (m : PlainManager) (n : ℕ) (event : Event) (refusal : Refusal) (number : Option ℕ) → IsBodies (run_after (Bodies m) (server_step m n event refusal number).next)
server_bodies m n event refusal None = (m, refl)
server_bodies m n event refusal (Some number) = (_, refl)

body_bodies : (m : PlainManager) (n : ℕ) (line : ScriptLine) → IsBodies (run_after (Bodies m) (body_step m n line).next)
body_bodies m n (Open rid) = (m, refl)
body_bodies m n (Short rid stanza) = (m, refl)
body_bodies m n (Host name greeting) = split (λ (step : Step). IsBodies (run_after (Bodies m) step.next)) (takes_host m name) _ _ (λ is. (_, refl)) (λ is. (m, refl))
body_bodies m n (At moment) = split (λ (step : Step). IsBodies (run_after (Bodies m) step.next)) (nat_lt moment m.moment) _ _ (λ is. (m, refl)) (λ is. (_, refl))
body_bodies m n (Post conn body) = split (λ (step : Step). IsBodies (run_after (Bodies m) step.next)) (is_waiting m conn) _ _ (λ is. (m, refl)) (λ is. (_, refl))
body_bodies m n (Close conn) = split (λ (step : Step). IsBodies (run_after (Bodies m) step.next)) (is_waiting m conn) _ _ (λ is. (_, refl)) (λ is. (m, refl))
body_bodies m n (BackLine sid stream stanza) = server_bodies m n (Gives stream stanza) BackOver (was_given m.opened (number_of sid))
body_bodies m n (Shut sid stream closing) = server_bodies m n (Shuts stream closing) ShutOver (was_given m.opened (number_of sid))
body_bodies m n LastLine = (m, refl)

pub read_bodies : (m : PlainManager) (n : ℕ) (read : LineRead) → IsBodies (run_after (Bodies m) (step_by (Bodies m) n read).next)
read_bodies m n (Line line) = body_bodies m n line
read_bodies m n (BadLine kind) = (m, refl)

-- what a line does to a script that tells of bodies, whatever it says
pub step_continues : (entries : List SessionEntry) (run : PlainRun) → IsBodies run → All (HasJournal entries) (manager_of run).live
    → ((number : ℕ) → is_opened (manager_of run).opened number ≡ false → journal_in number entries ≡ [])
    → (n : ℕ) (read : LineRead) → Continues entries (manager_of run).live (manager_of run).opened (step_by run n read).over (manager_of (run_after run (step_by run n read).next))
step_continues entries Beginning (m, is) has none n read = absurd (cc)
step_continues entries (Arrivals other) (m, is) has none n read = absurd (cc)
step_continues entries (Bodies m) bodies has none n read = read_continues entries m has none n read

pub step_bodies : (run : PlainRun) → IsBodies run → (n : ℕ) (read : LineRead) → IsBodies (run_after run (step_by run n read).next)
step_bodies Beginning (m, is) n read = absurd (cc)
step_bodies (Arrivals other) (m, is) n read = absurd (cc)
step_bodies (Bodies m) bodies n read = read_bodies m n read
