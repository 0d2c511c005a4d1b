-- Whatever a script says, its report tells of its sessions.
use Rattle.std.proofs.Common.{◌≡◌, ℕ, ◌+◌, ◌≤◌, Bool, true, false, List, [], ◌∷◌, ◌++◌, Option, Some, None, length, refl, sym, subst, ◌∙◌, ap, arith, append_assoc, if◌then◌else◌}
use Rattle.std.specs.Prelude.{filter, ◌==◌, ◌&&◌, nat_le, nat_lt, IsTrue}
use Rattle.std.proofs.lemmas.Bool.{leb-true, le-leb}
use Rattle.std.proofs.lemmas.List.Elements.{All-nil, All-cons, All-append, All-push, All-weaker}
use Rattle.bosh_types.specs.Limits.{most_lines, longest_line}
use Rattle.session_core.specs.Journal.{Journal, IsJournal}
use Rattle.session_core.specs.Passed.{stream_of}
use Rattle.session_core.specs.State.{is_over}
use Rattle.session_laws.specs.Laws.{KeptLaws}
use Rattle.session_laws.proofs.Tests.{split}
use Rattle.script_text.specs.declared.event.Event.{Event}
use Rattle.script_text.specs.declared.event.Event.TheVariants.{Gives, Shuts}
use Rattle.script_text.specs.declared.line.BadKind.{BadKind}
use Rattle.script_text.specs.declared.line.BadKind.TheVariants.{Count, Grammar, Connection, Session, Time, End as NoEnd}
use Rattle.script_text.specs.declared.line.LineRead.{LineRead}
use Rattle.script_text.specs.declared.line.LineRead.TheVariants.{Line, BadLine}
use Rattle.script_text.specs.declared.line.ScriptLine.{ScriptLine}
use Rattle.script_text.specs.declared.line.ScriptLine.TheVariants.{Open, Short, Host, At, Post, Close, Back, Shut, End as LastLine}
use Rattle.script_text.specs.declared.report.Refusal.{Refusal}
use Rattle.script_text.specs.declared.report.Refusal.TheVariants.{BackOver, ShutOver}
use Rattle.script_text.specs.declared.report.ReportLine.{ReportLine}
use Rattle.script_text.specs.declared.report.ReportLine.TheVariants.{Refused, Done as SaysDone, Bad as SaysBad}
use Rattle.script_text.specs.Headline.{manager_of, live_at_end, is_opened, TellsOf, KeepsItsWord}
use Rattle.session_attrs.specs.Serving.{can_serve}
use Rattle.line_reader.specs.Lines.{lines_of}
use Rattle.script_text.specs.Live.{PlainLive, state}
use Rattle.script_text.specs.Manager.{PlainManager, Change, new_manager, is_waiting, number_of}
use Rattle.script_text.specs.Said.{IsSaid, IsWellRead}
use Rattle.script_text.specs.Script.{PlainRun, Beginning, Arrivals, Bodies, PlainNext, Goes, Ends, Step, bad_step, done_step, begun, takes_host, with_host, server_step, body_step, arrival_change, host_alone, arrival_step, first_step, said_step, step_by, said, Drive, ended_with, after_step, drive_on, drive_of}
use Rattle.script_text.specs.Stands.{IsEvent}
use Rattle.script_text.proofs.InwardLemmas.{inward_is}
use Rattle.script_text.proofs.ReportLemmas.{Holds, HoldsAfter, none_ended, none_reported, numbers_positive, only_holds, closed_holds, passed_holds, comes_holds, posted_holds}
use Rattle.script_text.proofs.OpeningLemmas.{alone_is_host}
use Rattle.script_text.proofs.SaidLemmas.{lines_well}
use Rattle.script_text.proofs.SessionsLemmas.{Ended, GoesOn, one_if, tells_told}

-- after a line the report still tells of the sessions, those of the manager before where the script ends
abbrev pub Follows : List ReportLine → List PlainLive → PlainManager → List ReportLine → List PlainLive → PlainNext → Type 0
Follows report over m lines more (Goes after) = Holds (report ++ lines) (over ++ more) (manager_of after)
Follows report over m lines more (Ends outcome) = Holds (report ++ lines) (over ++ more) m

abbrev pub StepHolds : List ReportLine → List PlainLive → PlainManager → Step → Type 0
StepHolds report over m step = Follows report over m step.lines step.over step.next

-- a session that a creation was given
abbrev pub given_within : ℕ → Option ℕ → Option ℕ
given_within opened None = None
given_within opened (Some number) = if nat_le number opened then Some number else None

module _ (report : List ReportLine) (over : List PlainLive) (m : PlainManager) (holds : Holds report over m) where
  bad_holds : (n : ℕ) (kind : BadKind) → StepHolds report over m (bad_step n kind)
  bad_holds n kind = only_holds report over m holds (SaysBad n kind) (λ k. refl) tt

  done_holds : (n : ℕ) → StepHolds report over m (done_step n)
  done_holds n = only_holds report over m holds (SaysDone n) (λ k. refl) tt

  pub begun_holds : Holds report over (begun m)
  begun_holds = record { tells = holds.tells; hosts = holds.hosts }

  host_holds : (name : List ℕ) (greeting : List (List ℕ)) → IsTrue (can_serve (record { name = name; greeting = greeting })) → Holds report over (with_host m name greeting)
  host_holds name greeting good = record {
    tells = holds.tells;
    hosts = All-push (λ host. IsTrue (can_serve host)) m.hosts (record { name = name; greeting = greeting }) holds.hosts good;
  }

  server_holds : (n : ℕ) (event : Event) → IsEvent event → (refusal : Refusal) (number : Option ℕ) → ((k : ℕ) → number ≡ Some k → is_opened m.opened k ≡ true)
      → StepHolds report over m (server_step m n event refusal number)
  server_holds n event allowed refusal None opened = bad_holds n Session
  server_holds n event allowed refusal (Some number) opened =
      comes_holds report over (begun m) begun_holds event allowed (Refused number refusal) (λ k. refl) (opened number refl) number

  given_by : (number : Option ℕ) → ((k : ℕ) → number ≡ Some k → 1 ≤ k) → (k : ℕ) → given_within m.opened number ≡ Some k → is_opened m.opened k ≡ true
  given_by None positive k is = absurd (cc)
  given_by (Some number) positive k is = by (nat_le number m.opened) refl is
    where
      by : (b : Bool) → nat_le number m.opened ≡ b → (if b then Some number else None) ≡ Some k → is_opened m.opened k ≡ true
      by true few some =
          let same : number ≡ k = cc in
          let one : 1 ≤ k = positive k (ap Some same) in
          ap (λ b. b && nat_le k m.opened) (le-leb 1 k one) ∙ ap (λ n. nat_le n m.opened) (sym same) ∙ few
      by false few some = absurd (cc)

  body_holds : (n : ℕ) (line : ScriptLine) → IsSaid line → StepHolds report over m (body_step m n line)
  body_holds n (Open rid) well = bad_holds n Grammar
  body_holds n (Short rid stanza) well = bad_holds n Grammar
  body_holds n (Host name greeting) well = split (StepHolds report over m) (takes_host m name) _ _
      (λ takes. none_ended (report ++ []) over _ (none_reported report over _ (host_holds name greeting well)))
      (λ not. bad_holds n Grammar)
  body_holds n (At moment) well = split (StepHolds report over m) (nat_lt moment m.moment) _ _
      (λ back. bad_holds n Time)
      (λ forth. passed_holds report over m holds moment)
  body_holds n (Post conn body) well = split (StepHolds report over m) (is_waiting m conn) _ _
      (λ waits. bad_holds n Connection)
      (λ free. posted_holds report over (begun m) begun_holds conn body)
  body_holds n (Close conn) well = split (StepHolds report over m) (is_waiting m conn) _ _
      (λ waits. closed_holds report over (begun m) begun_holds conn)
      (λ free. bad_holds n Connection)
  body_holds n (Back sid stream stanza) well = server_holds n (Gives stream stanza) well BackOver (given_within m.opened (number_of sid)) (given_by (number_of sid) (numbers_positive sid))
  body_holds n (Shut sid stream closing) well = server_holds n (Shuts stream closing) tt ShutOver (given_within m.opened (number_of sid)) (given_by (number_of sid) (numbers_positive sid))
  body_holds n LastLine well = done_holds n

  -- of these only some lines are reported
  told_holds : (before : PlainManager) (change : Change) → HoldsAfter report over change → StepHolds report over before (arrival_change change)
  told_holds before change after = record {
    tells = tells_told report change.lines (over ++ change.over) change.after.live change.after.opened after.tells;
    hosts = after.hosts;
  }

  arrival_holds : (n : ℕ) (line : ScriptLine) → StepHolds report over m (arrival_step m n line)
  arrival_holds n (Open rid) = bad_holds n Grammar
  arrival_holds n (Short rid stanza) = told_holds m _ (posted_holds report over m holds 0 _)
  arrival_holds n (Host name greeting) = bad_holds n Grammar
  arrival_holds n (At moment) = bad_holds n Grammar
  arrival_holds n (Post conn body) = bad_holds n Grammar
  arrival_holds n (Close conn) = bad_holds n Grammar
  arrival_holds n (Back sid stream stanza) = bad_holds n Grammar
  arrival_holds n (Shut sid stream closing) = bad_holds n Grammar
  arrival_holds n LastLine = done_holds n

module _ (report : List ReportLine) (over : List PlainLive) where
  pub alone_holds : Holds report over new_manager → Holds report over host_alone
  alone_holds holds = record { tells = holds.tells; hosts = All-cons (λ host. IsTrue (can_serve host)) _ [] alone_is_host (All-nil (λ host. IsTrue (can_serve host))) }

  first_holds : Holds report over new_manager → (n : ℕ) (line : ScriptLine) → IsSaid line → StepHolds report over new_manager (first_step n line)
  first_holds holds n (Open rid) well = told_holds report over host_alone (alone_holds holds) new_manager _ (posted_holds report over host_alone (alone_holds holds) 0 _)
  first_holds holds n (Short rid stanza) well = bad_holds report over new_manager holds n Grammar
  first_holds holds n (Host name greeting) well = body_holds report over new_manager holds n (Host name greeting) well
  first_holds holds n (At moment) well = body_holds report over new_manager holds n (At moment) well
  first_holds holds n (Post conn body) well = body_holds report over new_manager holds n (Post conn body) well
  first_holds holds n (Close conn) well = body_holds report over new_manager holds n (Close conn) well
  first_holds holds n (Back sid stream stanza) well = body_holds report over new_manager holds n (Back sid stream stanza) well
  first_holds holds n (Shut sid stream closing) well = body_holds report over new_manager holds n (Shut sid stream closing) well
  first_holds holds n LastLine well = done_holds report over new_manager holds n

  said_holds : (run : PlainRun) → Holds report over (manager_of run) → (n : ℕ) (line : ScriptLine) → IsSaid line → StepHolds report over (manager_of run) (said_step run n line)
  said_holds Beginning holds n line well = first_holds holds n line well
  said_holds (Arrivals m) holds n line well = arrival_holds report over m holds n line
  said_holds (Bodies m) holds n line well = body_holds report over m holds n line well

  pub step_holds : (run : PlainRun) → Holds report over (manager_of run) → (n : ℕ) (read : LineRead) → IsWellRead read → StepHolds report over (manager_of run) (step_by run n read)
  step_holds run holds n (Line line) well = said_holds run holds n line well
  step_holds run holds n (BadLine kind) well = bad_holds report over (manager_of run) holds n kind

pub well_said : (n : ℕ) (line : List ℕ) → IsWellRead (said n line)
well_said n line = split IsWellRead (nat_lt most_lines n) _ _ (λ many. tt)
    (λ few. split IsWellRead (nat_lt longest_line (length line)) _ _ (λ long. tt) (λ short. lines_well line))

-- the whole script: after this report and these sessions
abbrev DriveHolds : List ReportLine → List PlainLive → Drive → Type 0
DriveHolds report over drive = Holds (report ++ drive.report) (over ++ drive.over) (manager_of drive.last)

drive_holds : (lines : List (List ℕ)) (run : PlainRun) (n : ℕ) (report : List ReportLine) (over : List PlainLive) → Holds report over (manager_of run)
    → DriveHolds report over (drive_on run n lines)
drive_holds [] run n report over holds = bad_holds report over (manager_of run) holds n (if nat_lt most_lines n then Count else NoEnd)
drive_holds (line ∷ others) run n report over holds =
    by (λ after. drive_holds others after (n + 1)) (step_by run n (said n line)).next (step_holds report over run holds n (said n line) (well_said n line))
  where
    by : ((after : PlainRun) (report : List ReportLine) (over : List PlainLive) → Holds report over (manager_of after) → DriveHolds report over (drive_on after (n + 1) others))
        → (next : PlainNext) → Follows report over (manager_of run) (step_by run n (said n line)).lines (step_by run n (said n line)).over next
        → DriveHolds report over (elim next [
          | Goes after ↦ after_step (step_by run n (said n line)) (drive_on after (n + 1) others)
          | Ends outcome ↦ ended_with run (step_by run n (said n line)) outcome
        ])
    by rest (Goes after) follows =
        let step : Step = step_by run n (said n line) in
        let drive : Drive = drive_on after (n + 1) others in
        subst (λ r. Holds r (over ++ (step.over ++ drive.over)) (manager_of drive.last)) (append_assoc report step.lines drive.report)
        (subst (λ o. Holds ((report ++ step.lines) ++ drive.report) o (manager_of drive.last)) (append_assoc over step.over drive.over)
        (rest after (report ++ step.lines) (over ++ step.over) follows))
    by rest (Ends outcome) follows = follows

pub none_opened : (k : ℕ) → 0 ≡ one_if (is_opened 0 k)
none_opened k = by (nat_le 1 k) (nat_le k 0) refl refl
  where
    by : (a b : Bool) → nat_le 1 k ≡ a → nat_le k 0 ≡ b → 0 ≡ one_if (a && b)
    by true true some few = absurd (omega (arith, leb-true 1 k some, leb-true k 0 few))
    by true false some few = refl
    by false b some few = refl

pub new_holds : Holds [] [] new_manager
new_holds = record {
  tells = record {
    numbers = none_opened;
    named = λ k d within. absurd (omega (arith, within));
    ended = λ k d within. absurd (omega (arith, within));
    going = λ k d within. absurd (omega (arith, within));
  };
  hosts = All-nil (λ host. IsTrue (can_serve host));
}

pub keeps_its_word : ((journal : Journal) → IsJournal journal → KeptLaws journal) → (script : List ℕ) → KeepsItsWord (drive_of script)
keeps_its_word laws script =
    let drive : Drive = drive_of script in
    let holds = drive_holds (lines_of script) Beginning 1 [] [] new_holds in
    let tells = holds.tells in
    record {
      numbers = tells.numbers;
      named = tells.named;
      live = All-weaker (GoesOn drive.report) (λ s. is_over (state s) ≡ false) (λ s g. g.up.goes_on) (live_at_end drive) tells.going;
      over = All-weaker (Ended drive.report) (λ s. is_over (state s) ≡ true) (λ s e. e.over) drive.over tells.ended;
      sessions = All-append (TellsOf drive.report) drive.over (live_at_end drive)
          (All-weaker (Ended drive.report) (TellsOf drive.report) (λ s e. record { made = e.made; laws = laws s.journal e.made; told = e.told; inward_is = inward_is drive.report s e.told; streams = λ stream. ap (filter (λ item. stream_of item == stream)) (inward_is drive.report s e.told) }) drive.over tells.ended)
          (All-weaker (GoesOn drive.report) (TellsOf drive.report) (λ s g. record { made = g.up.made; laws = laws s.journal g.up.made; told = g.told; inward_is = inward_is drive.report s g.told; streams = λ stream. ap (filter (λ item. stream_of item == stream)) (inward_is drive.report s g.told) }) (live_at_end drive) tells.going);
    }
