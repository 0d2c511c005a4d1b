-- Each line of a script enters what it says, at its moment, into the session that it names.
use Rattle.std.proofs.Common.{◌≡◌, ℕ, ◌+◌, true, false, List, [], ◌∷◌, ◌++◌, All, Option, Some, None, refl, sym, subst, ◌∙◌, if◌then◌else◌}
use Rattle.std.specs.Prelude.{nat_le, nat_lt}
use Rattle.std.specs.List.{list_any}
use Rattle.std.proofs.lemmas.List.Elements.{All-nil}
use Rattle.session_core.specs.Journal.{Entered}
use Rattle.session_laws.proofs.Tests.{some_is, split, true_false}
use Rattle.script_text.specs.declared.event.Event.{Event}
use Rattle.script_text.specs.declared.event.Event.TheVariants.{Gives, Shuts, Passes}
use Rattle.script_text.specs.declared.line.BadKind.{BadKind}
use Rattle.script_text.specs.declared.line.BadKind.TheVariants.{Connection, Grammar, Session, Time}
use Rattle.script_text.specs.declared.line.LineRead.{LineRead}
use Rattle.script_text.specs.declared.line.LineRead.TheVariants.{Line, BadLine}
use Rattle.script_text.specs.declared.line.ScriptLine.{ScriptLine}
use Rattle.script_text.specs.declared.line.ScriptLine.TheVariants.{Open, Short, Host, At, Post, Close, Back, Shut, End as LastLine}
use Rattle.script_text.specs.declared.report.Refusal.{Refusal}
use Rattle.script_text.specs.declared.report.Refusal.TheVariants.{BackOver, ShutOver}
use Rattle.script_text.specs.declared.report.ReportLine.{ReportLine}
use Rattle.script_text.specs.declared.report.ReportLine.TheVariants.{Refused}
use Rattle.script_text.specs.Answered.{Posting, sessions_after, stages_by, over_bodies}
use Rattle.script_text.specs.Entered.{IsEntered, StandsWith, entry_at, is_bad}
use Rattle.script_text.specs.Headline.{manager_of}
use Rattle.script_text.specs.Live.{PlainLive}
use Rattle.script_text.specs.Manager.{PlainManager, closed, comes, is_waiting, new_manager, number_of, passed, posted}
use Rattle.script_text.specs.Posted.{is_number}
use Rattle.script_text.specs.Script.{PlainRun, Beginning, Arrivals, Bodies, Step, bad_step, begun, change_step, body_step, server_step, step_by, takes_host, was_given, with_host}
use Rattle.script_text.proofs.HeadlineLemmas.{begun_holds}
use Rattle.script_text.proofs.OwnLemmas.{event_entry}
use Rattle.script_text.proofs.ReportLemmas.{Holds}
use Rattle.script_text.proofs.StageLemmas.{OfEach, every_stage}
use Rattle.script_text.proofs.StandsLemmas.{AllStand, all_same, closed_stands, comes_stands, passed_stands, posted_stands}

module _ (report : List ReportLine) (over : List PlainLive) (m : PlainManager) (holds : Holds report over m) (n : ℕ) where
  -- where the line isn't bad
  abbrev Enters : (PlainLive → Option Entered) → Step → Type 0
  Enters entry step = list_any is_bad step.lines ≡ false → AllStand m.live (sessions_after (Bodies m) step) entry

  bad_enters : (entry : PlainLive → Option Entered) (kind : BadKind) → Enters entry (bad_step n kind)
  bad_enters entry kind well = absurd (true_false well)

  server_enters : (event : Event) (refusal : Refusal) (number : Option ℕ)
      → Enters (λ s. if is_number s.number number then event_entry m.moment event s else None) (server_step m n event refusal (was_given m.opened number))
  server_enters event refusal None = bad_enters (λ s. None) Session
  server_enters event refusal (Some number) =
      split (λ o. Enters (λ s. if is_number s.number (Some number) then event_entry m.moment event s else None) (server_step m n event refusal o)) (nat_le number m.opened) _ _
      (λ few well. comes_stands report over (begun m) (begun_holds report over m holds) event (Refused number refusal) number)
      (λ many. bad_enters (λ s. if is_number s.number (Some number) then event_entry m.moment event s else None) Session)

  line_enters : (line : ScriptLine) → Enters (entry_at m line) (body_step m n line)
  line_enters (Open rid) = bad_enters (λ s. None) Grammar
  line_enters (Short rid stanza) = bad_enters (λ s. None) Grammar
  line_enters (Host name greeting) = split (Enters (λ s. None)) (takes_host m name) _ _ (λ takes well. all_same m.live) (λ not. bad_enters (λ s. None) Grammar)
  line_enters (At moment) = split (Enters (entry_at m (At moment))) (nat_lt moment m.moment) _ _
      (λ back. bad_enters (entry_at m (At moment)) Time)
      (λ forth well. passed_stands report over m holds moment)
  line_enters (Post conn body) = split (Enters (entry_at m (Post conn body))) (is_waiting m conn) _ _
      (λ waits. bad_enters (entry_at m (Post conn body)) Connection)
      (λ free well. posted_stands report over (begun m) (begun_holds report over m holds) conn body)
  line_enters (Close conn) = split (Enters (λ s. None)) (is_waiting m conn) _ _
      (λ waits well. closed_stands (begun m) conn)
      (λ free. bad_enters (λ s. None) Connection)
  line_enters (Back sid stream stanza) = server_enters (Gives stream stanza) BackOver (number_of sid)
  line_enters (Shut sid stream closing) = server_enters (Shuts stream closing) ShutOver (number_of sid)
  line_enters LastLine = λ well. all_same m.live

stage_entered : OfEach IsEntered
stage_entered posted report over run holds n read well m line before says heard = by run before holds heard
  where
    by : (run : PlainRun) → over_bodies run ≡ Some m → Holds report over (manager_of run) → list_any is_bad (step_by run n read).lines ≡ false
        → AllStand m.live (sessions_after run (step_by run n read)) (entry_at m line)
    by Beginning is holds heard =
        let same : new_manager ≡ m = some_is new_manager m is in
        subst (λ (k : PlainManager). AllStand k.live (sessions_after Beginning (step_by Beginning n read)) (entry_at m line)) same
        (All-nil (λ s. StandsWith (sessions_after Beginning (step_by Beginning n read)) s (entry_at m line s)))
    by (Arrivals k) is holds heard = absurd (cc)
    by (Bodies k) is holds heard =
        let same : k ≡ m = some_is k m is in
        subst (λ (k' : PlainManager). AllStand k'.live (sessions_after (Bodies k) (step_by (Bodies k) n read)) (entry_at k' line)) same
        (subst (λ read. AllStand k.live (sessions_after (Bodies k) (step_by (Bodies k) n read)) (entry_at k line)) (sym says)
        (line_enters report over k holds n line (subst (λ read. list_any is_bad (step_by (Bodies k) n read).lines ≡ false) says heard)))

pub lines_entered : (script : List ℕ) → All IsEntered (stages_by script)
lines_entered script = every_stage IsEntered stage_entered script
