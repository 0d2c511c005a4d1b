-- The present moment of a script is that of its last line `at`.
use Rattle.std.proofs.Common.{◌≡◌, ℕ, ◌+◌, ◌&&◌, List, [], ◌∷◌, ◌++◌, Option, Some, None, length, refl, sym, subst, ◌∙◌}
use Rattle.std.specs.Prelude.{⊤, nat_lt, slice_get}
use Rattle.bosh_types.specs.Limits.{most_sessions, most_openings}
use Rattle.bosh_types.specs.declared.hosts.HostName.{HostName}
use Rattle.session_attrs.specs.declared.admission.Admitted.{Admitted}
use Rattle.session_attrs.specs.declared.admission.Admitted.TheVariants as admitted
use Rattle.session_attrs.specs.declared.request.Creation.{Creation}
use Rattle.session_attrs.specs.declared.request.Kind.{Kind}
use Rattle.session_attrs.specs.declared.request.Kind.TheVariants as kinds
use Rattle.session_attrs.specs.declared.request.Request.{Request}
use Rattle.session_attrs.specs.Admission.{admitted_of}
use Rattle.session_laws.proofs.Tests.{some_is, split}
use Rattle.script_text.specs.declared.event.Event.{Event}
use Rattle.script_text.specs.declared.event.Event.TheVariants.{Arrives, Gives, Shuts}
use Rattle.script_text.specs.declared.line.LineRead.{LineRead}
use Rattle.script_text.specs.declared.line.LineRead.TheVariants.{Line, BadLine}
use Rattle.script_text.specs.declared.line.ScriptLine.{ScriptLine}
use Rattle.script_text.specs.declared.line.ScriptLine.TheVariants.{Open, Short, Host, At, Post, Close, Back, Shut, End as LastLine}
use Rattle.script_text.specs.declared.report.Refusal.{Refusal}
use Rattle.script_text.specs.declared.report.Refusal.TheVariants.{BackOver, ShutOver}
use Rattle.script_text.specs.declared.report.ReportLine.{ReportLine}
use Rattle.script_text.specs.declared.report.ReportLine.TheVariants.{Refused}
use Rattle.script_text.specs.Answered.{Posting, over_bodies, postings_in, stages_by, stages_on}
use Rattle.script_text.specs.Entered.{AreTimed, moment_by, moment_said}
use Rattle.line_reader.specs.Lines.{lines_of}
use Rattle.script_text.specs.Live.{PlainLive, not_found}
use Rattle.script_text.specs.Manager.{PlainManager, Change, admitted_to, at_host, comes, comes_at, comes_to, is_waiting, new_manager, number_of, only, place_of, posted, posted_as, posted_by, request_in}
use Rattle.script_text.specs.Script.{PlainRun, Beginning, Arrivals, Bodies, PlainNext, Goes, Ends, Step, arrival_step, begun, body_step, creation_text, first_step, host_alone, request_text, said, server_step, step_by, takes_host, was_given}

-- the present moment of what a script is run over
abbrev IsAt : ℕ → PlainRun → Type 0
IsAt now run = (m : PlainManager) → over_bodies run ≡ Some m → m.moment ≡ now

abbrev GoesAt : ℕ → PlainNext → Type 0
GoesAt now (Goes after) = IsAt now after
GoesAt now (Ends outcome) = ⊤

bodies_at : (m : PlainManager) (now : ℕ) → m.moment ≡ now → IsAt now (Bodies m)
bodies_at m now is k same = subst (λ (j : PlainManager). j.moment ≡ now) (some_is m k same) is

arrivals_at : (m : PlainManager) (now : ℕ) → IsAt now (Arrivals m)
arrivals_at m now k same = absurd (cc)

comes_moment : (m : PlainManager) (event : Event) (otherwise : ReportLine) (number : ℕ) → (comes m event otherwise number).after.moment ≡ m.moment
comes_moment m event otherwise number = by (place_of m number)
  where
    at : (place : ℕ) (o : Option PlainLive) → (comes_at m event otherwise place o).after.moment ≡ m.moment
    at place None = refl
    at place (Some s) = refl

    by : (o : Option ℕ) → (elim o as (λ x. Change) [ None ↦ only m otherwise | Some place ↦ comes_at m event otherwise place (slice_get m.live place) ]).after.moment ≡ m.moment
    by None = refl
    by (Some place) = at place (slice_get m.live place)

module _ (m : PlainManager) (conn : ℕ) (body : List ℕ) where
  host_moment : (request : Request) (creation : Creation) (o : Option HostName) → (at_host m conn body request creation o).after.moment ≡ m.moment
  host_moment request creation None = refl
  host_moment request creation (Some host) = split (λ (change : Change). change.after.moment ≡ m.moment) (nat_lt (length m.live) most_sessions && nat_lt m.opened most_openings) _ _ (λ room. refl) (λ full. refl)

  admitted_moment : (request : Request) (creation : Creation) (to : Admitted) → (admitted_to m conn body request creation to).after.moment ≡ m.moment
  admitted_moment request creation admitted.Improper = refl
  admitted_moment request creation admitted.Unknown = refl
  admitted_moment request creation (admitted.Host place) = host_moment request creation (slice_get m.hosts place)

  to_moment : (request : Request) (number : Option ℕ) → (comes_to m conn body request number).after.moment ≡ m.moment
  to_moment request None = refl
  to_moment request (Some number) = comes_moment m (Arrives conn request body) (not_found conn) number

  kind_moment : (request : Request) (kind : Kind) → (posted_by m conn body request kind).after.moment ≡ m.moment
  kind_moment request (kinds.Later sid) = to_moment request (number_of sid)
  kind_moment request (kinds.Creation creation) = admitted_moment request creation (admitted_of request.to m.hosts)

  as_moment : (o : Option Request) → (posted_as m conn body o).after.moment ≡ m.moment
  as_moment None = refl
  as_moment (Some request) = kind_moment request request.kind

  posted_moment : (posted m conn body).after.moment ≡ m.moment
  posted_moment = as_moment (request_in body)

-- Lines.

module _ (m : PlainManager) (n : ℕ) where
  server_at : (event : Event) (refusal : Refusal) (number : Option ℕ) → GoesAt m.moment (server_step m n event refusal number).next
  server_at event refusal None = tt
  server_at event refusal (Some number) = bodies_at (comes (begun m) event (Refused number refusal) number).after m.moment (comes_moment (begun m) event (Refused number refusal) number)

  body_at : (line : ScriptLine) → GoesAt (moment_by m.moment line) (body_step m n line).next
  body_at (Open rid) = tt
  body_at (Short rid stanza) = tt
  body_at (Host name greeting) = split (λ (step : Step). GoesAt m.moment step.next) (takes_host m name) _ _ (λ takes. bodies_at _ m.moment refl) (λ not. tt)
  body_at (At moment) = split (λ (step : Step). GoesAt moment step.next) (nat_lt moment m.moment) _ _ (λ back. tt) (λ forth. bodies_at _ moment refl)
  body_at (Post conn body) = split (λ (step : Step). GoesAt m.moment step.next) (is_waiting m conn) _ _ (λ waits. tt)
      (λ free. bodies_at (posted (begun m) conn body).after m.moment (posted_moment (begun m) conn body))
  body_at (Close conn) = split (λ (step : Step). GoesAt m.moment step.next) (is_waiting m conn) _ _ (λ waits. bodies_at _ m.moment refl) (λ free. tt)
  body_at (Back sid stream stanza) = server_at (Gives stream stanza) BackOver (was_given m.opened (number_of sid))
  body_at (Shut sid stream closing) = server_at (Shuts stream closing) ShutOver (was_given m.opened (number_of sid))
  body_at LastLine = tt

  arrival_at : (now : ℕ) (line : ScriptLine) → GoesAt now (arrival_step m n line).next
  arrival_at now (Open rid) = tt
  arrival_at now (Short rid stanza) = arrivals_at (posted m 0 (request_text rid stanza)).after now
  arrival_at now (Host name greeting) = tt
  arrival_at now (At moment) = tt
  arrival_at now (Post conn body) = tt
  arrival_at now (Close conn) = tt
  arrival_at now (Back sid stream stanza) = tt
  arrival_at now (Shut sid stream closing) = tt
  arrival_at now LastLine = tt

first_at : (n : ℕ) (line : ScriptLine) → GoesAt (moment_by 0 line) (first_step n line).next
first_at n (Open rid) = arrivals_at (posted host_alone 0 (creation_text rid)).after 0
first_at n (Short rid stanza) = tt
first_at n (Host name greeting) = body_at new_manager n (Host name greeting)
first_at n (At moment) = body_at new_manager n (At moment)
first_at n (Post conn body) = body_at new_manager n (Post conn body)
first_at n (Close conn) = body_at new_manager n (Close conn)
first_at n (Back sid stream stanza) = body_at new_manager n (Back sid stream stanza)
first_at n (Shut sid stream closing) = body_at new_manager n (Shut sid stream closing)
first_at n LastLine = tt

read_at : (run : PlainRun) (now : ℕ) → IsAt now run → (n : ℕ) (read : LineRead) → GoesAt (moment_said now read) (step_by run n read).next
read_at run now at n (BadLine kind) = tt
read_at Beginning now at n (Line line) = subst (λ k. GoesAt (moment_by k line) (first_step n line).next) (at new_manager refl) (first_at n line)
read_at (Arrivals m) now at n (Line line) = arrival_at m n (moment_by now line) line
read_at (Bodies m) now at n (Line line) = subst (λ k. GoesAt (moment_by k line) (body_step m n line).next) (at m refl) (body_at m n line)

timed_on : (lines : List (List ℕ)) (run : PlainRun) (n : ℕ) (posted : List Posting) (now : ℕ) → IsAt now run → AreTimed now (stages_on posted run n lines)
timed_on [] run n posted now at = (at, tt)
timed_on (line ∷ others) run n posted now at =
    (at, by (λ after. timed_on others after (n + 1) (postings_in (said n line) ++ posted) (moment_said now (said n line))) (step_by run n (said n line)).next (read_at run now at n (said n line)))
  where
    by : ((after : PlainRun) → IsAt (moment_said now (said n line)) after → AreTimed (moment_said now (said n line)) (stages_on (postings_in (said n line) ++ posted) after (n + 1) others))
        → (next : PlainNext) → GoesAt (moment_said now (said n line)) next
        → AreTimed (moment_said now (said n line)) (elim next [
          | Goes after ↦ stages_on (postings_in (said n line) ++ posted) after (n + 1) others
          | Ends outcome ↦ []
        ])
    by rest (Goes after) goes = rest after goes
    by rest (Ends outcome) goes = tt

-- along every script
pub lines_timed : (script : List ℕ) → AreTimed 0 (stages_by script)
lines_timed script = timed_on (lines_of script) Beginning 1 [] 0 (λ m same. subst (λ (j : PlainManager). j.moment ≡ 0) (some_is new_manager m same) refl)
