-- The sessions that a line of a script leaves are sessions of the whole script, whose journals go on from what they were.
use Rattle.std.proofs.Common.{◌≡◌, ℕ, ◌+◌, List, [], ◌∷◌, ◌++◌, All, Option, Some, None, refl, sym, subst, ◌∙◌, ap, append_assoc, if◌then◌else◌}
use Rattle.std.specs.Prelude.{nat_le, nat_lt}
use Rattle.std.proofs.lemmas.List.Elements.{All-nil, All-cons, All-head, All-append, All-weaker}
use Rattle.session_core.specs.Journal.{Entered, Journal}
use Rattle.session_laws.proofs.Tests.{split}
use Rattle.script_text.specs.declared.event.Event.{Event}
use Rattle.script_text.specs.declared.event.Event.TheVariants.{Gives, Shuts, Passes}
use Rattle.script_text.specs.declared.line.BadKind.{BadKind}
use Rattle.script_text.specs.declared.line.BadKind.TheVariants.{Grammar}
use Rattle.script_text.specs.declared.line.LineRead.{LineRead}
use Rattle.script_text.specs.declared.line.LineRead.TheVariants.{Line, BadLine}
use Rattle.script_text.specs.declared.line.ScriptLine.{ScriptLine}
use Rattle.script_text.specs.declared.line.ScriptLine.TheVariants.{Open, Short, Host, At, Post, Close, Back, Shut, End as LastLine}
use Rattle.script_text.specs.declared.report.Refusal.{Refusal}
use Rattle.script_text.specs.declared.report.Refusal.TheVariants.{BackOver, ShutOver}
use Rattle.script_text.specs.declared.report.ReportLine.{ReportLine}
use Rattle.script_text.specs.declared.report.ReportLine.TheVariants.{Refused}
use Rattle.script_text.specs.Answered.{Posting, Stage, postings_in, sessions_after, stage_of, stages_by, stages_on}
use Rattle.script_text.specs.Entered.{AreStill, GoesOnWith, Grew, IsOneOf, IsStill, StandsWith, arrives_at}
use Rattle.script_text.specs.Headline.{live_at_end, manager_of, sessions_of}
use Rattle.line_reader.specs.Lines.{lines_of}
use Rattle.script_text.specs.Live.{PlainLive}
use Rattle.script_text.specs.Manager.{PlainManager, Change, closed, comes, is_waiting, number_of, passed, posted, request_in}
use Rattle.script_text.specs.Posted.{is_number}
use Rattle.script_text.specs.Script.{PlainRun, Beginning, Arrivals, Bodies, PlainNext, Goes, Ends, Step, Drive, after_step, arrival_step, bad_step, begun, body_step, drive_of, drive_on, ended_with, request_text, run_after, said, server_step, step_by, takes_host, was_given}
use Rattle.script_text.proofs.HeadlineLemmas.{Follows, begun_holds, new_holds, step_holds, well_said}
use Rattle.script_text.proofs.LaterLemmas.{entered_grew, grew_on, same_grew}
use Rattle.script_text.proofs.OneOfLemmas.{all_ones, one_back, one_front}
use Rattle.script_text.proofs.OwnLemmas.{event_entry}
use Rattle.script_text.proofs.ReportLemmas.{Holds}
use Rattle.script_text.proofs.SessionsLemmas.{all_back, all_front}
use Rattle.script_text.proofs.StandsLemmas.{AllStand, all_same, closed_stands, comes_stands, passed_stands, posted_stands, sessions_in}

goes_grew : (o : Option Entered) (before after : Journal) → GoesOnWith o before after → Grew before after
goes_grew None before after same = subst (Grew before) (sym same) (same_grew before)
goes_grew (Some e) before after goes = grew_on before _ after (entered_grew before (Some e)) (goes.0, goes.1)

stands_still : (live after : List PlainLive) (entry : PlainLive → Option Entered) → AllStand live after entry → All (IsStill after) live
stands_still live after entry all = All-weaker (λ s. StandsWith after s (entry s)) (IsStill after)
    (λ s stands. (stands.0, stands.1, stands.2, goes_grew (entry s) s.journal stands.0.journal stands.3)) live all

-- one of those of whom it holds
all_one : {X : Type 0} (P : X → Type 0) (xs : List X) (x : X) → All P xs → IsOneOf x xs → P x
all_one P xs x all (before, after, is) = All-head P x after (all_back P before (x ∷ after) (subst (All P) is all))

still_all : (sessions : List PlainLive) → All (IsStill sessions) sessions
still_all sessions = All-weaker (λ s. IsOneOf s sessions) (IsStill sessions) (λ s one. (s, one, refl, same_grew s.journal)) sessions (all_ones sessions)

still_on : (live after last : List PlainLive) → All (IsStill after) live → All (IsStill last) after → All (IsStill last) live
still_on live after last one other = All-weaker (IsStill after) (IsStill last)
    (λ s still.
    let t = all_one (IsStill last) after still.0 other still.1 in
    (t.0, t.1, t.2 ∙ still.2, grew_on s.journal still.0.journal t.0.journal still.3 t.3)) live one

still_front : (sessions more live : List PlainLive) → All (IsStill sessions) live → All (IsStill (sessions ++ more)) live
still_front sessions more live all = All-weaker (IsStill sessions) (IsStill (sessions ++ more)) (λ s still. (still.0, one_front still.0 sessions more still.1, still.2, still.3)) live all

still_back : (sessions more live : List PlainLive) → All (IsStill more) live → All (IsStill (sessions ++ more)) live
still_back sessions more live all = All-weaker (IsStill more) (IsStill (sessions ++ more)) (λ s still. (still.0, one_back still.0 sessions more still.1, still.2, still.3)) live all

-- One line.

module _ (report : List ReportLine) (over : List PlainLive) (m : PlainManager) (holds : Holds report over m) (n : ℕ) where
  change_still : (change : Change) (entry : PlainLive → Option Entered) → AllStand m.live (sessions_in change) entry → All (IsStill (sessions_in change)) m.live
  change_still change entry stands = stands_still m.live (sessions_in change) entry stands

  abbrev Stays : PlainRun → Step → Type 0
  Stays run step = All (IsStill (sessions_after run step)) m.live

  server_still : (event : Event) (refusal : Refusal) (number : Option ℕ) → Stays (Bodies m) (server_step m n event refusal number)
  server_still event refusal None = still_all m.live
  server_still event refusal (Some number) =
      change_still (comes (begun m) event (Refused number refusal) number) (λ s. if is_number s.number (Some number) then event_entry m.moment event s else None) (comes_stands report over (begun m) (begun_holds report over m holds) event (Refused number refusal) number)

  body_still : (line : ScriptLine) → Stays (Bodies m) (body_step m n line)
  body_still (Open rid) = still_all m.live
  body_still (Short rid stanza) = still_all m.live
  body_still (Host name greeting) = split (Stays (Bodies m)) (takes_host m name) _ _ (λ takes. still_all m.live) (λ not. still_all m.live)
  body_still (At moment) = split (Stays (Bodies m)) (nat_lt moment m.moment) _ _
      (λ back. still_all m.live)
      (λ forth. change_still (passed m moment) (event_entry moment Passes) (passed_stands report over m holds moment))
  body_still (Post conn body) = split (Stays (Bodies m)) (is_waiting m conn) _ _
      (λ waits. still_all m.live)
      (λ free. change_still (posted (begun m) conn body) (λ s. arrives_at m.moment body s (request_in body)) (posted_stands report over (begun m) (begun_holds report over m holds) conn body))
  body_still (Close conn) = split (Stays (Bodies m)) (is_waiting m conn) _ _
      (λ waits. change_still (closed (begun m) conn) (λ s. None) (closed_stands (begun m) conn))
      (λ free. still_all m.live)
  body_still (Back sid stream stanza) = server_still (Gives stream stanza) BackOver (was_given m.opened (number_of sid))
  body_still (Shut sid stream closing) = server_still (Shuts stream closing) ShutOver (was_given m.opened (number_of sid))
  body_still LastLine = still_all m.live

  arrival_still : (line : ScriptLine) → Stays (Arrivals m) (arrival_step m n line)
  arrival_still (Open rid) = still_all m.live
  arrival_still (Short rid stanza) = change_still (posted m 0 (request_text rid stanza)) (λ s. arrives_at m.moment (request_text rid stanza) s (request_in (request_text rid stanza)))
      (posted_stands report over m holds 0 (request_text rid stanza))
  arrival_still (Host name greeting) = still_all m.live
  arrival_still (At moment) = still_all m.live
  arrival_still (Post conn body) = still_all m.live
  arrival_still (Close conn) = still_all m.live
  arrival_still (Back sid stream stanza) = still_all m.live
  arrival_still (Shut sid stream closing) = still_all m.live
  arrival_still LastLine = still_all m.live

step_still : (report : List ReportLine) (over : List PlainLive) (run : PlainRun) → Holds report over (manager_of run) → (n : ℕ) (read : LineRead)
    → All (IsStill (sessions_after run (step_by run n read))) (manager_of run).live
step_still report over Beginning holds n read = All-nil (IsStill (sessions_after Beginning (step_by Beginning n read)))
step_still report over (Arrivals m) holds n (Line line) = arrival_still report over m holds n line
step_still report over (Arrivals m) holds n (BadLine kind) = still_all m.live
step_still report over (Bodies m) holds n (Line line) = body_still report over m holds n line
step_still report over (Bodies m) holds n (BadLine kind) = still_all m.live

-- Whole scripts.

drive_still : (lines : List (List ℕ)) (run : PlainRun) (n : ℕ) (report : List ReportLine) (over : List PlainLive) → Holds report over (manager_of run)
    → All (IsStill (sessions_of (drive_on run n lines))) (manager_of run).live
drive_still [] run n report over holds = still_all (manager_of run).live
drive_still (line ∷ others) run n report over holds =
    by (λ after. drive_still others after (n + 1)) (step_by run n (said n line)).next refl (step_holds report over run holds n (said n line) (well_said n line))
  where
    by : ((after : PlainRun) (report : List ReportLine) (over : List PlainLive) → Holds report over (manager_of after) → All (IsStill (sessions_of (drive_on after (n + 1) others))) (manager_of after).live)
        → (next : PlainNext) → (step_by run n (said n line)).next ≡ next
        → Follows report over (manager_of run) (step_by run n (said n line)).lines (step_by run n (said n line)).over next
        → All (IsStill (sessions_of (elim next [
          | Goes after ↦ after_step (step_by run n (said n line)) (drive_on after (n + 1) others)
          | Ends outcome ↦ ended_with run (step_by run n (said n line)) outcome
        ]))) (manager_of run).live
    by rest (Goes after) is follows =
        let step : Step = step_by run n (said n line) in
        let drive : Drive = drive_on after (n + 1) others in
        let now = rest after (report ++ step.lines) (over ++ step.over) follows in
        still_on (manager_of run).live (step.over ++ (manager_of after).live) ((step.over ++ drive.over) ++ live_at_end drive)
        (subst (λ next. All (IsStill (step.over ++ (manager_of (run_after run next)).live)) (manager_of run).live) is (step_still report over run holds n (said n line)))
        (subst (λ l. All (IsStill l) (step.over ++ (manager_of after).live)) (sym (append_assoc step.over drive.over (live_at_end drive)))
        (All-append (IsStill (step.over ++ (drive.over ++ live_at_end drive))) step.over (manager_of after).live
        (still_front step.over (drive.over ++ live_at_end drive) step.over (still_all step.over))
        (still_back step.over (drive.over ++ live_at_end drive) (manager_of after).live now)))
    by rest (Ends outcome) is follows = still_back (step_by run n (said n line)).over (manager_of run).live (manager_of run).live (still_all (manager_of run).live)

-- the stages of the rest, after those that ended before
stages_still : (lines : List (List ℕ)) (run : PlainRun) (n : ℕ) (posted : List Posting) (report : List ReportLine) (over : List PlainLive) → Holds report over (manager_of run)
    → All (AreStill (over ++ sessions_of (drive_on run n lines))) (stages_on posted run n lines)
stages_still [] run n posted report over holds =
    All-cons (AreStill (over ++ (manager_of run).live)) (stage_of posted run n (BadLine _)) []
    (still_back over (manager_of run).live (manager_of run).live (still_all (manager_of run).live)) (All-nil (AreStill (over ++ (manager_of run).live)))
stages_still (line ∷ others) run n posted report over holds =
    by (λ after. stages_still others after (n + 1)) (step_by run n (said n line)).next refl (step_holds report over run holds n (said n line) (well_said n line))
  where
    step : Step
    step = step_by run n (said n line)

    stage : Stage
    stage = stage_of posted run n (said n line)

    by : ((after : PlainRun) (posted : List Posting) (report : List ReportLine) (over : List PlainLive) → Holds report over (manager_of after)
        → All (AreStill (over ++ sessions_of (drive_on after (n + 1) others))) (stages_on posted after (n + 1) others))
        → (next : PlainNext) → step.next ≡ next → Follows report over (manager_of run) step.lines step.over next
        → All (AreStill (over ++ sessions_of (elim next [
          | Goes after ↦ after_step step (drive_on after (n + 1) others)
          | Ends outcome ↦ ended_with run step outcome
        ]))) (stage ∷ elim next [
          | Goes after ↦ stages_on (postings_in (said n line) ++ posted) after (n + 1) others
          | Ends outcome ↦ []
        ])
    by rest (Goes after) is follows =
        let drive : Drive = drive_on after (n + 1) others in
        let last : List PlainLive = over ++ ((step.over ++ drive.over) ++ live_at_end drive) in
        let later = drive_still others after (n + 1) (report ++ step.lines) (over ++ step.over) follows in
        let here : All (IsStill (step.over ++ (drive.over ++ live_at_end drive))) (step.over ++ (manager_of after).live) =
        All-append (IsStill (step.over ++ (drive.over ++ live_at_end drive))) step.over (manager_of after).live
        (still_front step.over (drive.over ++ live_at_end drive) step.over (still_all step.over))
        (still_back step.over (drive.over ++ live_at_end drive) (manager_of after).live later) in
        let same : (over ++ step.over) ++ (drive.over ++ live_at_end drive) ≡ last =
        append_assoc over step.over (drive.over ++ live_at_end drive) ∙ ap (λ l. over ++ l) (sym (append_assoc step.over drive.over (live_at_end drive))) in
        All-cons (AreStill last) stage (stages_on (postings_in (said n line) ++ posted) after (n + 1) others)
        (subst (λ next. All (IsStill last) (step.over ++ (manager_of (run_after run next)).live)) (sym is)
        (still_back over ((step.over ++ drive.over) ++ live_at_end drive) (step.over ++ (manager_of after).live)
        (subst (λ l. All (IsStill l) (step.over ++ (manager_of after).live)) (sym (append_assoc step.over drive.over (live_at_end drive))) here)))
        (subst (λ l. All (AreStill l) (stages_on (postings_in (said n line) ++ posted) after (n + 1) others)) same
        (rest after (postings_in (said n line) ++ posted) (report ++ step.lines) (over ++ step.over) follows))
    by rest (Ends outcome) is follows =
        let last : List PlainLive = over ++ (step.over ++ (manager_of run).live) in
        All-cons (AreStill last) stage []
        (subst (λ next. All (IsStill last) (step.over ++ (manager_of (run_after run next)).live)) (sym is)
        (still_back over (step.over ++ (manager_of run).live) (step.over ++ (manager_of run).live) (still_all (step.over ++ (manager_of run).live))))
        (All-nil (AreStill last))

-- along every script
pub lines_leave : (script : List ℕ) → All (AreStill (sessions_of (drive_of script))) (stages_by script)
lines_leave script = stages_still (lines_of script) Beginning 1 [] [] [] new_holds
