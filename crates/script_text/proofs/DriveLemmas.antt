-- Along a script: what was posted came to the sessions.
use Rattle.std.proofs.Common.{◌≡◌, ℕ, ◌+◌, false, List, [], ◌∷◌, ◌++◌, All, length, Option, Some, None, refl, sym, subst, ◌∙◌, ap, cond, append_assoc}
use Rattle.std.specs.Prelude.{filter, ◌&&◌, nat_lt, slice_get}
use Rattle.std.proofs.lemmas.List.{append-nil}
use Rattle.std.proofs.lemmas.List.Elements.{All-nil, All-append}
use Rattle.bosh_types.specs.Limits.{most_sessions, most_openings}
use Rattle.bosh_types.specs.declared.hosts.HostName.{HostName}
use Rattle.body_writer.specs.Answer.{answer_text}
use Rattle.session_attrs.specs.declared.admission.Admitted.{Admitted}
use Rattle.session_attrs.specs.declared.admission.Admitted.TheVariants as admitted
use Rattle.session_attrs.specs.declared.request.Creation.{Creation}
use Rattle.session_attrs.specs.declared.request.Kind.{Kind}
use Rattle.session_attrs.specs.declared.request.Kind.TheVariants as kinds
use Rattle.session_attrs.specs.declared.request.Request.{Request}
use Rattle.session_attrs.specs.Admission.{admitted_of}
use Rattle.session_core.specs.Machine.{created_parts}
use Rattle.session_core.specs.declared.opening.Opening.{Opening}
use Rattle.session_laws.proofs.Tests.{split}
use Rattle.script_text.specs.declared.event.Event.{Event}
use Rattle.script_text.specs.declared.event.Event.TheVariants.{Arrives, Gives, Shuts}
use Rattle.script_text.specs.declared.line.LineRead.{LineRead}
use Rattle.script_text.specs.declared.line.LineRead.TheVariants.{Line, BadLine}
use Rattle.script_text.specs.declared.line.ScriptLine.{ScriptLine}
use Rattle.script_text.specs.declared.line.ScriptLine.TheVariants.{Open, Short, Host, At, Post, Close, Back, Shut, End as LastLine}
use Rattle.script_text.specs.declared.report.Refusal.{Refusal}
use Rattle.script_text.specs.declared.report.Refusal.TheVariants.{BackOver, ShutOver}
use Rattle.script_text.specs.declared.report.ReportLine.{ReportLine}
use Rattle.script_text.specs.declared.report.ReportLine.TheVariants.{Out, Refused}
use Rattle.script_text.specs.Headline.{manager_of, sessions_of}
use Rattle.line_reader.specs.Lines.{lines_of}
use Rattle.script_text.specs.Live.{PlainLive, not_found, if_live}
use Rattle.script_text.specs.Manager.{PlainManager, Change, new_manager, is_waiting, number_of, at_host, admitted_to, request_in, comes_to, posted_by, posted_as, posted, opened_turn, opening_by, with_opened}
use Rattle.script_text.specs.Posted.{named_of, named_by, is_number, is_for, posts_of, posts_in, posts_on, posts_by, CameFrom}
use Rattle.script_text.specs.Said.{IsSaid, IsWellRead}
use Rattle.script_text.specs.Script.{PlainRun, Beginning, Arrivals, Bodies, PlainNext, Goes, Ends, Step, begun, takes_host, host_alone, server_step, body_step, arrival_step, first_step, said_step, step_by, said, Drive, after_step, ended_with, drive_on, drive_of}
use Rattle.script_text.specs.Stands.{IsEvent}
use Rattle.script_text.proofs.BodiesLemmas.{brought}
use Rattle.script_text.proofs.HeadlineLemmas.{given_within, Follows, begun_holds, alone_holds, step_holds, well_said, new_holds}
use Rattle.script_text.proofs.PostedLemmas.{Came, came_parts, came_opened, none_came, comes_came, pass_came, closed_came, overs_more, lives_more}
use Rattle.script_text.proofs.ReportLemmas.{Holds, read_from}
use Rattle.script_text.proofs.ToldLemmas.{same_number}

-- One body.

module _ (posts : List (List ℕ)) (report : List ReportLine) (over : List PlainLive) (m : PlainManager) (holds : Holds report over m) (came : Came posts over m.live)
    (conn : ℕ) (body : List ℕ) where
  abbrev After : Change → Type 0
  After change = Came (posts ++ body ∷ []) (over ++ change.over) change.after.live

  -- it names nobody
  for_none : (o : Option ℕ) → named_by (request_in body) ≡ o → ((k : ℕ) → is_number k o ≡ false) → (k : ℕ) → filter (is_for k) (body ∷ []) ≡ []
  for_none o is none k = ap (λ o. cond (is_number k o) (body ∷ []) []) is ∙ ap (λ b. cond b (body ∷ []) []) (none k)

  untouched : named_by (request_in body) ≡ None → Came (posts ++ body ∷ []) (over ++ []) m.live
  untouched none = none_came posts (body ∷ []) report over m holds came (λ k d within. for_none None none (λ k. refl) _)

  module _ (request : Request) (is : request_in body ≡ Some request) where
    later_came : (sid : List ℕ) → request.kind ≡ kinds.Later sid → (number : Option ℕ) → number_of sid ≡ number → After (comes_to m conn body request number)
    later_came sid kind None names = untouched (ap named_by is ∙ ap named_of kind ∙ names)
    later_came sid kind (Some number) names =
        let names_it : named_by (request_in body) ≡ Some number = ap named_by is ∙ ap named_of kind ∙ names in
        comes_came posts (body ∷ []) report over m holds came (Arrives conn request body) (read_from body request is, (sid, kind)) (not_found conn) number
        (ap (λ o. cond (is_number number o) (body ∷ []) []) names_it ∙ ap (λ b. cond b (body ∷ []) []) (same_number number))
        (λ k other. ap (λ o. cond (is_number k o) (body ∷ []) []) names_it ∙ ap (λ b. cond b (body ∷ []) []) other)

    creation_names : (creation : Creation) → request.kind ≡ kinds.Creation creation → named_by (request_in body) ≡ None
    creation_names creation kind = ap named_by is ∙ ap named_of kind

    opened_came : (creation : Creation) → request.kind ≡ kinds.Creation creation → (number : ℕ) (host : HostName)
        → After (with_opened m number (opened_turn number conn (opening_by host number body request creation m.moment)))
    opened_came creation kind number host =
        let nobody = for_none None (creation_names creation kind) (λ k. refl) in
        let o : Opening = opening_by host number body request creation m.moment in
        let parts = came_parts (posts ++ body ∷ []) over m.live [] (opened_turn number conn o).after
        (overs_more posts (body ∷ []) report over m holds came)
        (lives_more posts (body ∷ []) report over m holds came m.live came.going (λ k d within. nobody _))
        (All-nil (CameFrom (posts ++ body ∷ [])))
        (came_opened posts number o (Out conn (answer_text (created_parts o)) ∷ [])) in
        record {
          ended = parts.ended;
          going = subst (λ l. All (CameFrom (posts ++ body ∷ [])) (m.live ++ l)) (append-nil (if_live (opened_turn number conn o).after)) parts.going;
        }

    at_host_came : (creation : Creation) → request.kind ≡ kinds.Creation creation → (o : Option HostName) → After (at_host m conn body request creation o)
    at_host_came creation kind None = untouched (creation_names creation kind)
    at_host_came creation kind (Some host) = split After (nat_lt (length m.live) most_sessions && nat_lt m.opened most_openings) _ _
        (λ room. opened_came creation kind (m.opened + 1) host)
        (λ full. untouched (creation_names creation kind))

    admitted_came : (creation : Creation) → request.kind ≡ kinds.Creation creation → (to : Admitted) → After (admitted_to m conn body request creation to)
    admitted_came creation kind admitted.Improper = untouched (creation_names creation kind)
    admitted_came creation kind admitted.Unknown = untouched (creation_names creation kind)
    admitted_came creation kind (admitted.Host place) = at_host_came creation kind (slice_get m.hosts place)

    kind_came : (kind : Kind) → request.kind ≡ kind → After (posted_by m conn body request kind)
    kind_came (kinds.Later sid) kind = later_came sid kind (number_of sid) refl
    kind_came (kinds.Creation creation) kind = admitted_came creation kind (admitted_of request.to m.hosts)

  as_came : (o : Option Request) → request_in body ≡ o → After (posted_as m conn body o)
  as_came None is = untouched (ap named_by is)
  as_came (Some request) is = kind_came request is request.kind refl

  -- a body that was posted
  pub posted_came : After (posted m conn body)
  posted_came = as_came (request_in body) refl

-- One line.

abbrev FollowsCame : List (List ℕ) → List (List ℕ) → List PlainLive → PlainManager → List PlainLive → PlainNext → Type 0
FollowsCame posts more over m ended (Goes after) = Came (posts ++ more) (over ++ ended) (manager_of after).live
FollowsCame posts more over m ended (Ends outcome) = Came posts (over ++ ended) m.live

abbrev StepCame : List (List ℕ) → List (List ℕ) → List PlainLive → PlainManager → Step → Type 0
StepCame posts more over m step = FollowsCame posts more over m step.over step.next

no_more : (posts : List (List ℕ)) (over live : List PlainLive) → Came posts over live → Came (posts ++ []) over live
no_more posts over live came = subst (λ p. Came p over live) (sym (append-nil posts)) came

module _ (posts : List (List ℕ)) (report : List ReportLine) (over : List PlainLive) (m : PlainManager) (holds : Holds report over m) (came : Came posts over m.live) where
  ends_came : Came posts (over ++ []) m.live
  ends_came = record { ended = subst (λ o. All (CameFrom posts) o) (sym (append-nil over)) came.ended; going = came.going }

  begun_came : Came posts over (begun m).live
  begun_came = record { ended = came.ended; going = came.going }

  server_came : (n : ℕ) (event : Event) → IsEvent event → brought event ≡ [] → (refusal : Refusal) (number : Option ℕ) → StepCame posts [] over m (server_step m n event refusal number)
  server_came n event allowed none refusal None = ends_came
  server_came n event allowed none refusal (Some number) =
      comes_came posts [] report over (begun m) (begun_holds report over m holds) begun_came event allowed (Refused number refusal) number (sym none) (λ k other. refl)

  body_came : (n : ℕ) (line : ScriptLine) → IsSaid line → StepCame posts (posts_of line) over m (body_step m n line)
  body_came n (Open rid) well = ends_came
  body_came n (Short rid stanza) well = ends_came
  body_came n (Host name greeting) well = split (StepCame posts [] over m) (takes_host m name) _ _ (λ takes. no_more posts (over ++ []) m.live ends_came) (λ not. ends_came)
  body_came n (At moment) well = split (StepCame posts [] over m) (nat_lt moment m.moment) _ _ (λ back. ends_came)
      (λ forth. no_more posts _ _ (pass_came posts report over m moment holds came))
  body_came n (Post conn body) well = split (StepCame posts (body ∷ []) over m) (is_waiting m conn) _ _ (λ waits. ends_came)
      (λ free. posted_came posts report over (begun m) (begun_holds report over m holds) begun_came conn body)
  body_came n (Close conn) well = split (StepCame posts [] over m) (is_waiting m conn) _ _
      (λ waits. no_more posts _ _ (closed_came posts over (begun m) conn begun_came)) (λ free. ends_came)
  body_came n (Back sid stream stanza) well = server_came n (Gives stream stanza) well refl BackOver (given_within m.opened (number_of sid))
  body_came n (Shut sid stream closing) well = server_came n (Shuts stream closing) tt refl ShutOver (given_within m.opened (number_of sid))
  body_came n LastLine well = ends_came

  arrival_came : (n : ℕ) (line : ScriptLine) → StepCame posts (posts_of line) over m (arrival_step m n line)
  arrival_came n (Open rid) = ends_came
  arrival_came n (Short rid stanza) = posted_came posts report over m holds came 0 _
  arrival_came n (Host name greeting) = ends_came
  arrival_came n (At moment) = ends_came
  arrival_came n (Post conn body) = ends_came
  arrival_came n (Close conn) = ends_came
  arrival_came n (Back sid stream stanza) = ends_came
  arrival_came n (Shut sid stream closing) = ends_came
  arrival_came n LastLine = ends_came

module _ (posts : List (List ℕ)) (report : List ReportLine) (over : List PlainLive) where
  first_came : Holds report over new_manager → Came posts over [] → (n : ℕ) (line : ScriptLine) → IsSaid line → StepCame posts (posts_of line) over new_manager (first_step n line)
  first_came holds came n (Open rid) well = posted_came posts report over host_alone (alone_holds report over holds) came 0 _
  first_came holds came n (Short rid stanza) well = ends_came posts report over new_manager holds came
  first_came holds came n (Host name greeting) well = body_came posts report over new_manager holds came n (Host name greeting) well
  first_came holds came n (At moment) well = body_came posts report over new_manager holds came n (At moment) well
  first_came holds came n (Post conn body) well = body_came posts report over new_manager holds came n (Post conn body) well
  first_came holds came n (Close conn) well = body_came posts report over new_manager holds came n (Close conn) well
  first_came holds came n (Back sid stream stanza) well = body_came posts report over new_manager holds came n (Back sid stream stanza) well
  first_came holds came n (Shut sid stream closing) well = body_came posts report over new_manager holds came n (Shut sid stream closing) well
  first_came holds came n LastLine well = ends_came posts report over new_manager holds came

  said_came : (run : PlainRun) → Holds report over (manager_of run) → Came posts over (manager_of run).live → (n : ℕ) (line : ScriptLine) → IsSaid line
      → StepCame posts (posts_of line) over (manager_of run) (said_step run n line)
  said_came Beginning holds came n line well = first_came holds came n line well
  said_came (Arrivals m) holds came n line well = arrival_came posts report over m holds came n line
  said_came (Bodies m) holds came n line well = body_came posts report over m holds came n line well

  step_came : (run : PlainRun) → Holds report over (manager_of run) → Came posts over (manager_of run).live → (n : ℕ) (read : LineRead) → IsWellRead read
      → StepCame posts (posts_in read) over (manager_of run) (step_by run n read)
  step_came run holds came n (Line line) well = said_came run holds came n line well
  step_came run holds came n (BadLine kind) well = ends_came posts report over (manager_of run) holds came

-- Whole scripts.

abbrev DriveCame : List (List ℕ) → List (List ℕ) → List PlainLive → Drive → Type 0
DriveCame posts more over drive = Came (posts ++ more) (over ++ drive.over) (manager_of drive.last).live

drive_came : (lines : List (List ℕ)) (run : PlainRun) (n : ℕ) (posts : List (List ℕ)) (report : List ReportLine) (over : List PlainLive) → Holds report over (manager_of run)
    → Came posts over (manager_of run).live → DriveCame posts (posts_on run n lines) over (drive_on run n lines)
drive_came [] run n posts report over holds came = no_more posts (over ++ []) (manager_of run).live (ends_came posts report over (manager_of run) holds came)
drive_came (line ∷ others) run n posts report over holds came =
    by (λ after. drive_came others after (n + 1)) (step_by run n (said n line)).next
    (step_holds report over run holds n (said n line) (well_said n line)) (step_came posts report over run holds came n (said n line) (well_said n line))
  where
    by : ((after : PlainRun) (posts : List (List ℕ)) (report : List ReportLine) (over : List PlainLive) → Holds report over (manager_of after) → Came posts over (manager_of after).live
        → DriveCame posts (posts_on after (n + 1) others) over (drive_on after (n + 1) others))
        → (next : PlainNext) → Follows report over (manager_of run) (step_by run n (said n line)).lines (step_by run n (said n line)).over next
        → FollowsCame posts (posts_in (said n line)) over (manager_of run) (step_by run n (said n line)).over next
        → DriveCame posts (elim next [ Goes after ↦ posts_in (said n line) ++ posts_on after (n + 1) others | Ends outcome ↦ [] ]) over (elim next [
          | Goes after ↦ after_step (step_by run n (said n line)) (drive_on after (n + 1) others)
          | Ends outcome ↦ ended_with run (step_by run n (said n line)) outcome
        ])
    by rest (Goes after) follows comes =
        let step : Step = step_by run n (said n line) in
        let drive : Drive = drive_on after (n + 1) others in
        let more : List (List ℕ) = posts_in (said n line) in
        subst (λ p. Came p (over ++ (step.over ++ drive.over)) (manager_of drive.last).live) (append_assoc posts more (posts_on after (n + 1) others))
        (subst (λ o. Came ((posts ++ more) ++ posts_on after (n + 1) others) o (manager_of drive.last).live) (append_assoc over step.over drive.over)
        (rest after (posts ++ more) (report ++ step.lines) (over ++ step.over) follows comes))
    by rest (Ends outcome) follows comes = no_more posts _ _ comes

-- each session was created by a body that was posted, and what was posted for it came to it
pub sessions_came : (script : List ℕ) → All (CameFrom (posts_by script)) (sessions_of (drive_of script))
sessions_came script =
    let came = drive_came (lines_of script) Beginning 1 [] [] [] new_holds (record { ended = All-nil (CameFrom []); going = All-nil (CameFrom []) }) in
    All-append (CameFrom (posts_by script)) (drive_of script).over (manager_of (drive_of script).last).live came.ended came.going
