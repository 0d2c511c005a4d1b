-- Along a script: each request that is posted has one fate.
use Rattle.std.proofs.Common.{◌≡◌, ℕ, ◌+◌, ◌==◌, true, false, List, [], ◌∷◌, ◌++◌, All, Option, Some, None, refl, sym, subst, ◌∙◌, ap, arith, if◌then◌else◌}
use Rattle.std.specs.Prelude.{count_by, nat_le, nat_lt, sum_by}
use Rattle.std.specs.List.{list_any}
use Rattle.std.proofs.lemmas.List.Elements.{All-nil, All-cons}
use Rattle.session_core.specs.Journal.{Entered}
use Rattle.session_laws.proofs.Tests.{some_is, split, true_false}
use Rattle.script_text.specs.declared.event.Event.{Event}
use Rattle.script_text.specs.declared.event.Event.TheVariants.{Gives, Shuts, Passes}
use Rattle.script_text.specs.declared.line.BadKind.{BadKind}
use Rattle.script_text.specs.declared.line.BadKind.TheVariants.{Connection, Grammar, Session, Time}
use Rattle.script_text.specs.declared.line.LineRead.{LineRead}
use Rattle.script_text.specs.declared.line.LineRead.TheVariants.{Line, BadLine}
use Rattle.script_text.specs.declared.line.ScriptLine.{ScriptLine}
use Rattle.script_text.specs.declared.line.ScriptLine.TheVariants.{Open, Short, Host, At, Post, Close, Back, Shut, End as LastLine}
use Rattle.script_text.specs.declared.report.Refusal.{Refusal}
use Rattle.script_text.specs.declared.report.Refusal.TheVariants.{BackOver, ShutOver}
use Rattle.script_text.specs.declared.report.ReportLine.{ReportLine}
use Rattle.script_text.specs.declared.report.ReportLine.TheVariants.{Done as SaysDone, Refused}
use Rattle.script_text.specs.Answered.{Posting, Stage, over_bodies, postings_in, sessions_after, stage_of, stages_by, stages_on}
use Rattle.script_text.specs.Entered.{entry_at, is_bad}
use Rattle.script_text.specs.Fates.{HasFates, HaveOneFate, closed_on_it, is_gone, is_lost, is_out, opens, posted_on, replaced_with, waiting_in, was_on}
use Rattle.script_text.specs.Headline.{manager_of}
use Rattle.line_reader.specs.Lines.{lines_of}
use Rattle.script_text.specs.Live.{PlainLive}
use Rattle.script_text.specs.Manager.{PlainManager, Change, closed, comes, is_waiting, new_manager, number_of, passed, posted, waits_on}
use Rattle.script_text.specs.Posted.{is_number}
use Rattle.script_text.specs.Said.{IsSaid, IsWellRead}
use Rattle.script_text.specs.Script.{PlainRun, Beginning, Arrivals, Bodies, PlainNext, Goes, Ends, Step, arrival_step, bad_step, begun, body_step, change_step, creation_text, done_step, first_step, host_alone, request_text, run_after, said, server_step, step_by, takes_host, was_given, with_host}
use Rattle.script_text.specs.Stands.{IsEvent}
use Rattle.script_text.proofs.HeadlineLemmas.{Follows, alone_holds, begun_holds, new_holds, step_holds, well_said}
use Rattle.script_text.proofs.ManagerFates.{ChangeFate, Ended, Well, all_on, all_passed_fate, closed_fate, comes_fate, nothing, posted_fate, still_fate}
use Rattle.script_text.proofs.OwnLemmas.{event_entry}
use Rattle.script_text.proofs.ReportLemmas.{Holds}
use Rattle.script_text.proofs.TurnFates.{posted_with}

-- what becomes of the requests on a connection, by what is entered, posted and closed
record StepFate (conn : ℕ) (live : List PlainLive) (entry : PlainLive → Option Entered) (posted closed : ℕ) (lines : List ReportLine) (after : List PlainLive) : Type 0 where
  pub on_open : waiting_in (waits_on conn) live + posted ≡ count_by (is_out conn) lines + count_by (is_gone conn) lines + closed + waiting_in (waits_on conn) after
  pub gone : count_by (is_gone conn) lines ≡ sum_by (λ (s : PlainLive). replaced_with (waits_on conn) s (entry s)) live
  pub shut : waiting_in (was_on conn) live + closed
      ≡ count_by (is_lost conn) lines + sum_by (λ (s : PlainLive). replaced_with (was_on conn) s (entry s)) live + waiting_in (was_on conn) after

abbrev none_closed : ℕ → ℕ
none_closed conn = 0

module _ (report : List ReportLine) (over : List PlainLive) (m : PlainManager) (holds : Holds report over m) (wells : All Well m.live) (n : ℕ) where
  -- of a line that isn't bad, on each connection; and tickets are well after it
  record LineFate (entry : PlainLive → Option Entered) (posted closed : ℕ → ℕ) (step : Step) : Type 0 where
    pub fates : list_any is_bad step.lines ≡ false → (conn : ℕ) → StepFate conn m.live entry (posted conn) (closed conn) step.lines (sessions_after (Bodies m) step)
    pub well : All Well (manager_of (run_after (Bodies m) step.next)).live
    pub ended : All Ended (sessions_after (Bodies m) step)

  bad_fate : (entry : PlainLive → Option Entered) (posted closed : ℕ → ℕ) (kind : BadKind) → LineFate entry posted closed (bad_step n kind)
  bad_fate entry posted closed kind = record { fates = λ heard. absurd (true_false heard); well = wells; ended = all_on report m.live holds.tells.going }

  change_fate : (entry : PlainLive → Option Entered) (posted closed : ℕ → ℕ) (change : Change)
      → ((conn : ℕ) → ChangeFate conn m.live entry (posted conn) (closed conn) change.lines change.over change.after.live) → LineFate entry posted closed (change_step change)
  change_fate entry posted closed change fate = record {
    fates = λ heard conn. record { on_open = (fate conn).on_open; gone = (fate conn).gone; shut = (fate conn).shut };
    well = (fate 0).well;
    ended = (fate 0).ended;
  }

  -- nothing comes of it but these lines
  still_line : (step : Step) → sessions_after (Bodies m) step ≡ m.live → (manager_of (run_after (Bodies m) step.next)).live ≡ m.live
      → ((conn : ℕ) → (0 ≡ count_by (is_out conn) step.lines) × (count_by (is_gone conn) step.lines ≡ 0) × (count_by (is_lost conn) step.lines ≡ 0))
      → LineFate nothing none_closed none_closed step
  still_line step after next none = record {
    fates = λ heard conn.
        let f = still_fate conn report m.live nothing step.lines 0 wells holds.tells.going (λ k d within. refl) (none conn).0 (none conn).1 (none conn).2 in
        subst (StepFate conn m.live nothing 0 0 step.lines) (sym after) (record { on_open = f.on_open; gone = f.gone; shut = f.shut });
    well = subst (All Well) (sym next) wells;
    ended = subst (All Ended) (sym after) (all_on report m.live holds.tells.going);
  }

  server_fate : (event : Event) → IsEvent event → ((conn : ℕ) → posted_with conn event ≡ 0) → (refusal : Refusal) (o : Option ℕ)
      → LineFate (λ s. if is_number s.number o then event_entry m.moment event s else None) none_closed none_closed (server_step m n event refusal (was_given m.opened o))
  server_fate event allowed none refusal None = bad_fate (λ s. None) none_closed none_closed Session
  server_fate event allowed none refusal (Some number) =
      split (λ o. LineFate (λ s. if is_number s.number (Some number) then event_entry m.moment event s else None) none_closed none_closed (server_step m n event refusal o)) (nat_le number m.opened) _ _
      (λ few. change_fate (λ s. if is_number s.number (Some number) then event_entry m.moment event s else None) none_closed none_closed (comes (begun m) event (Refused number refusal) number)
      (λ conn. subst (λ k. ChangeFate conn m.live (λ s. if is_number s.number (Some number) then event_entry m.moment event s else None) k 0
      (comes (begun m) event (Refused number refusal) number).lines (comes (begun m) event (Refused number refusal) number).over (comes (begun m) event (Refused number refusal) number).after.live) (none conn)
      (comes_fate conn report over (begun m) (begun_holds report over m holds) wells event allowed (Refused number refusal) number (none conn) refl refl)))
      (λ many. bad_fate (λ s. if is_number s.number (Some number) then event_entry m.moment event s else None) none_closed none_closed Session)

  abbrev OfLine : ScriptLine → Step → Type 0
  OfLine line step = LineFate (entry_at m line) (λ conn. posted_on conn line) (λ conn. closed_on_it conn m line) step

  body_fate : (line : ScriptLine) → IsSaid line → OfLine line (body_step m n line)
  body_fate (Open rid) said = bad_fate nothing none_closed none_closed Grammar
  body_fate (Short rid stanza) said = bad_fate nothing none_closed none_closed Grammar
  body_fate (Host name greeting) said = split (LineFate nothing none_closed none_closed) (takes_host m name) _ _
      (λ takes. still_line _ refl refl (λ conn. (refl, refl, refl)))
      (λ not. bad_fate nothing none_closed none_closed Grammar)
  body_fate (At moment) said = split (LineFate (event_entry moment Passes) none_closed none_closed) (nat_lt moment m.moment) _ _
      (λ back. bad_fate (event_entry moment Passes) none_closed none_closed Time)
      (λ forth. change_fate (event_entry moment Passes) none_closed none_closed (passed m moment) (λ conn. all_passed_fate conn report over m holds wells moment))
  body_fate (Post other body) said = split (OfLine (Post other body)) (is_waiting m other) _ _
      (λ waits. bad_fate (entry_at m (Post other body)) (λ conn. posted_on conn (Post other body)) none_closed Connection)
      (λ free. change_fate (entry_at m (Post other body)) (λ conn. posted_on conn (Post other body)) none_closed (posted (begun m) other body)
      (λ conn. posted_fate conn report over (begun m) (begun_holds report over m holds) wells other body))
  body_fate (Close other) said = split (OfLine (Close other)) (is_waiting m other) _ _
      (λ waits. change_fate nothing none_closed (λ conn. closed_on_it conn m (Close other)) (closed (begun m) other) (λ conn. closed_fate conn report (begun m) other wells holds.tells.going))
      (λ free. bad_fate nothing none_closed (λ conn. closed_on_it conn m (Close other)) Connection)
  body_fate (Back sid stream stanza) said = server_fate (Gives stream stanza) said (λ conn. refl) BackOver (number_of sid)
  body_fate (Shut sid stream closing) said = server_fate (Shuts stream closing) tt (λ conn. refl) ShutOver (number_of sid)
  body_fate LastLine said = still_line (done_step n) refl refl (λ conn. (refl, refl, refl))

-- All that a line leaves.

abbrev WellAfter : PlainRun → Step → Type 0
WellAfter run step = All Well (manager_of (run_after run step.next)).live × All Ended (sessions_after run step)

arrival_well : (report : List ReportLine) (over : List PlainLive) (m : PlainManager) → Holds report over m → All Well m.live → (n : ℕ) (line : ScriptLine) → WellAfter (Arrivals m) (arrival_step m n line)
arrival_well report over m holds well n line = by line
  where
    same : All Well m.live × All Ended m.live
    same = (well, all_on report m.live holds.tells.going)

    by : (line : ScriptLine) → WellAfter (Arrivals m) (arrival_step m n line)
    by (Open rid) = same
    by (Short rid stanza) =
        let f = posted_fate 0 report over m holds well 0 (request_text rid stanza) in
        (f.well, f.ended)
    by (Host name greeting) = same
    by (At moment) = same
    by (Post conn body) = same
    by (Close conn) = same
    by (Back sid stream stanza) = same
    by (Shut sid stream closing) = same
    by LastLine = same

body_well : (report : List ReportLine) (over : List PlainLive) (m : PlainManager) → Holds report over m → All Well m.live → (n : ℕ) (line : ScriptLine) → IsSaid line → WellAfter (Bodies m) (body_step m n line)
body_well report over m holds well n line said =
    let f = body_fate report over m holds well n line said in
    (f.well, f.ended)

same_run : (next : PlainNext) → manager_of (run_after (Bodies new_manager) next) ≡ manager_of (run_after Beginning next)
same_run (Goes after) = refl
same_run (Ends outcome) = refl

-- a first line, as one over a manager without sessions
as_first : (step : Step) → WellAfter (Bodies new_manager) step → WellAfter Beginning step
as_first step w = (
  subst (λ (k : PlainManager). All Well k.live) (same_run step.next) w.0,
  subst (λ (k : PlainManager). All Ended (step.over ++ k.live)) (same_run step.next) w.1,
)

none_well : All Well new_manager.live
none_well = All-nil Well

first_well : (report : List ReportLine) (over : List PlainLive) → Holds report over new_manager → (n : ℕ) (line : ScriptLine) → IsSaid line → WellAfter Beginning (first_step n line)
first_well report over holds n (Open rid) said =
    let f = posted_fate 0 report over host_alone (alone_holds report over holds) none_well 0 (creation_text rid) in
    (f.well, f.ended)
first_well report over holds n (Short rid stanza) said = (none_well, All-nil Ended)
first_well report over holds n (Host name greeting) said = as_first (first_step n (Host name greeting)) (body_well report over new_manager holds none_well n (Host name greeting) said)
first_well report over holds n (At moment) said = as_first (first_step n (At moment)) (body_well report over new_manager holds none_well n (At moment) said)
first_well report over holds n (Post conn body) said = as_first (first_step n (Post conn body)) (body_well report over new_manager holds none_well n (Post conn body) said)
first_well report over holds n (Close conn) said = as_first (first_step n (Close conn)) (body_well report over new_manager holds none_well n (Close conn) said)
first_well report over holds n (Back sid stream stanza) said = as_first (first_step n (Back sid stream stanza)) (body_well report over new_manager holds none_well n (Back sid stream stanza) said)
first_well report over holds n (Shut sid stream closing) said = as_first (first_step n (Shut sid stream closing)) (body_well report over new_manager holds none_well n (Shut sid stream closing) said)
first_well report over holds n LastLine said = (none_well, All-nil Ended)

read_well : (report : List ReportLine) (over : List PlainLive) (run : PlainRun) → Holds report over (manager_of run) → All Well (manager_of run).live → (n : ℕ) (read : LineRead) → IsWellRead read
    → WellAfter run (step_by run n read)
read_well report over run holds well n (BadLine kind) said = (well, all_on report (manager_of run).live holds.tells.going)
read_well report over Beginning holds well n (Line line) said = first_well report over holds n line said
read_well report over (Arrivals m) holds well n (Line line) said = arrival_well report over m holds well n line
read_well report over (Bodies m) holds well n (Line line) said = body_well report over m holds well n line said

-- One stage.

as_one : (m : PlainManager) (line : ScriptLine) (lines : List ReportLine) (after : List PlainLive) (conn : ℕ)
    → StepFate conn m.live (entry_at m line) (posted_on conn line) (closed_on_it conn m line) lines after → HaveOneFate m line lines after conn
as_one m line lines after conn f = record { on_open = f.on_open; gone = f.gone; closed = f.shut }

-- a first line of a script of bodies is one over a manager without sessions
first_same : (n : ℕ) (line : ScriptLine) → opens line ≡ false → list_any is_bad (first_step n line).lines ≡ false
    → (first_step n line ≡ body_step new_manager n line)
first_same n (Open rid) opening heard = absurd (true_false opening)
first_same n (Short rid stanza) opening heard = refl
first_same n (Host name greeting) opening heard = refl
first_same n (At moment) opening heard = refl
first_same n (Post conn body) opening heard = refl
first_same n (Close conn) opening heard = refl
first_same n (Back sid stream stanza) opening heard = refl
first_same n (Shut sid stream closing) opening heard = refl
first_same n LastLine opening heard = refl

stage_fates : (posted : List Posting) (report : List ReportLine) (over : List PlainLive) (run : PlainRun) → Holds report over (manager_of run) → All Well (manager_of run).live
    → (n : ℕ) (read : LineRead) → IsWellRead read → HasFates (stage_of posted run n read)
stage_fates posted report over run holds well n read is_well = record {
  fates = λ m line before says opening heard conn. by run m holds well read is_well line before says opening heard conn;
  ended = (read_well report over run holds well n read is_well).1;
}
  where
    by : (run : PlainRun) (m : PlainManager) → Holds report over (manager_of run) → All Well (manager_of run).live → (read : LineRead) → IsWellRead read → (line : ScriptLine)
        → over_bodies run ≡ Some m → read ≡ Line line → opens line ≡ false → list_any is_bad (step_by run n read).lines ≡ false → (conn : ℕ)
        → HaveOneFate m line (step_by run n read).lines (sessions_after run (step_by run n read)) conn
    by run m holds well (BadLine kind) said line before says opening heard conn = absurd (true_false heard)
    by Beginning m holds well (Line other) said line before says opening heard conn =
        let same : new_manager ≡ m = some_is new_manager m before in
        let is : other ≡ line = cc in
        let step_is : first_step n other ≡ body_step new_manager n other = first_same n other (ap opens is ∙ opening) heard in
        let hears = ap (λ (step : Step). list_any is_bad step.lines) (sym step_is) ∙ heard in
        let f = (body_fate report over new_manager holds well n other said).fates hears conn in
        let one = as_one new_manager other (body_step new_manager n other).lines (sessions_after (Bodies new_manager) (body_step new_manager n other)) conn f in
        subst (λ (k : PlainManager). HaveOneFate k line (first_step n other).lines (sessions_after Beginning (first_step n other)) conn) same
        (subst (λ l. HaveOneFate new_manager l (first_step n other).lines (sessions_after Beginning (first_step n other)) conn) is
        (subst (λ (step : Step). HaveOneFate new_manager other step.lines (sessions_after Beginning step) conn) (sym step_is)
        (subst (λ (k : PlainManager). HaveOneFate new_manager other (body_step new_manager n other).lines ((body_step new_manager n other).over ++ k.live) conn) (same_run (body_step new_manager n other).next) one)))
    by (Arrivals k) m holds well (Line other) said line before says opening heard conn = absurd (cc)
    by (Bodies k) m holds well (Line other) said line before says opening heard conn =
        let same : k ≡ m = some_is k m before in
        let is : other ≡ line = cc in
        let f = (body_fate report over k holds well n other said).fates heard conn in
        let one = as_one k other (body_step k n other).lines (sessions_after (Bodies k) (body_step k n other)) conn f in
        subst (λ (j : PlainManager). HaveOneFate j line (body_step k n other).lines (sessions_after (Bodies k) (body_step k n other)) conn) same
        (subst (λ l. HaveOneFate k l (body_step k n other).lines (sessions_after (Bodies k) (body_step k n other)) conn) is one)

-- Whole scripts.

drive_fates : (lines : List (List ℕ)) (run : PlainRun) (n : ℕ) (posted : List Posting) (report : List ReportLine) (over : List PlainLive) → Holds report over (manager_of run)
    → All Well (manager_of run).live → All HasFates (stages_on posted run n lines)
drive_fates [] run n posted report over holds well =
    All-cons HasFates (stage_of posted run n (BadLine _)) [] (stage_fates posted report over run holds well n (BadLine _) tt) (All-nil HasFates)
drive_fates (line ∷ others) run n posted report over holds well =
    by (λ after. drive_fates others after (n + 1)) (step_by run n (said n line)).next (step_holds report over run holds n (said n line) (well_said n line))
    (read_well report over run holds well n (said n line) (well_said n line)).0
  where
    here : HasFates (stage_of posted run n (said n line))
    here = stage_fates posted report over run holds well n (said n line) (well_said n line)

    by : ((after : PlainRun) (posted : List Posting) (report : List ReportLine) (over : List PlainLive) → Holds report over (manager_of after) → All Well (manager_of after).live
        → All HasFates (stages_on posted after (n + 1) others))
        → (next : PlainNext) → Follows report over (manager_of run) (step_by run n (said n line)).lines (step_by run n (said n line)).over next
        → All Well (manager_of (run_after run next)).live
        → All HasFates (stage_of posted run n (said n line) ∷ elim next [
          | Goes after ↦ stages_on (postings_in (said n line) ++ posted) after (n + 1) others
          | Ends outcome ↦ []
        ])
    by rest (Goes after) follows kept = All-cons HasFates (stage_of posted run n (said n line)) _ here
        (rest after (postings_in (said n line) ++ posted) (report ++ (step_by run n (said n line)).lines) (over ++ (step_by run n (said n line)).over) follows kept)
    by rest (Ends outcome) follows kept = All-cons HasFates (stage_of posted run n (said n line)) [] here (All-nil HasFates)

-- along every script
pub requests_have_fates : (script : List ℕ) → All HasFates (stages_by script)
requests_have_fates script = drive_fates (lines_of script) Beginning 1 [] [] [] new_holds none_well
