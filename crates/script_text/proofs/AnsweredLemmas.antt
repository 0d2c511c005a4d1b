-- Along a script: each answer of its report is what a session gave the id of the latest request on its connection, or a refusal.
use Rattle.std.proofs.Common.{◌≡◌, ℕ, ◌+◌, ◌<◌, true, false, List, [], ◌∷◌, ◌++◌, All, length, Option, Some, None, refl, sym, subst, ◌∙◌, ap, append_assoc, arith, inl, inr, ◌≤◌, if◌then◌else◌}
use Rattle.std.specs.Prelude.{⊤, filter, ◌==◌, ◌&&◌, nat_lt, position, slice_get, IsTrue}
use Rattle.std.specs.Str.{bytes_eq}
use Rattle.std.proofs.lemmas.Bool.{eqb-false, eqb-true, ltb-true}
use Rattle.std.proofs.lemmas.List.{append-nil, nil_from_length}
use Rattle.std.proofs.lemmas.List.Elements.{All-nil, All-cons, All-append, All-weaker}
use Rattle.bosh_types.specs.Limits.{most_sessions, most_openings}
use Rattle.bosh_types.specs.declared.condition.Condition.{Condition}
use Rattle.bosh_types.specs.declared.condition.Condition.TheVariants.{ItemNotFound, HostUnknown, ImproperAddressing, UndefinedCondition, BadRequest, OtherRequest, PolicyViolation, RemoteConnectionFailed, RemoteStreamError, SystemShutdown}
use Rattle.bosh_types.specs.declared.hosts.HostName.{HostName}
use Rattle.body_writer.specs.Answer.{answer_text}
use Rattle.session_attrs.specs.declared.request.Creation.{Creation}
use Rattle.session_attrs.specs.declared.request.Kind.{Kind}
use Rattle.session_attrs.specs.declared.request.Kind.TheVariants as kinds
use Rattle.session_attrs.specs.declared.request.Request.{Request}
use Rattle.session_attrs.specs.Admission.{admitted_of, host_at}
use Rattle.session_core.specs.Journal.{Journal, none as nothing_made}
use Rattle.session_core.specs.Machine.{created_parts}
use Rattle.session_core.specs.declared.opening.Opening.{Opening}
use Rattle.session_laws.proofs.Lists.{get_some}
use Rattle.session_laws.proofs.Tests.{split, both_true, none_some, some_is}
use Rattle.script_text.specs.declared.event.Event.{Event}
use Rattle.script_text.specs.declared.event.Event.TheVariants.{Arrives, Gives, Shuts}
use Rattle.script_text.specs.declared.line.BadKind.{BadKind}
use Rattle.script_text.specs.declared.line.LineRead.{LineRead}
use Rattle.script_text.specs.declared.line.LineRead.TheVariants.{Line, BadLine}
use Rattle.script_text.specs.declared.line.ScriptLine.{ScriptLine}
use Rattle.script_text.specs.declared.line.ScriptLine.TheVariants.{Open, Short, Host, At, Post, Close, Back, Shut, End as LastLine}
use Rattle.script_text.specs.declared.report.Refusal.{Refusal}
use Rattle.script_text.specs.declared.report.Refusal.TheVariants.{BackOver, ShutOver}
use Rattle.script_text.specs.declared.report.ReportLine.{ReportLine}
use Rattle.script_text.specs.declared.report.ReportLine.TheVariants.{In, Out, Lost, Gone, Refused, Over, Done as SaysDone, Bad as SaysBad}
use Rattle.script_text.specs.Answered.{Posting, Stage, Asks, IsAccounted, IsRefusal, AreAccounted, latest_on, postings_of, postings_in, stage_of, stage_with, stages_on, stages_by, lines_told}
use Rattle.script_text.specs.Headline.{is_numbered, manager_of, opened_by, sessions_of}
use Rattle.session_attrs.specs.Serving.{can_serve}
use Rattle.line_reader.specs.Lines.{lines_of}
use Rattle.script_text.specs.Live.{PlainLive, not_found}
use Rattle.script_text.specs.Manager.{PlainManager, Change, new_manager, is_waiting, closed, comes, number_of, at_host, admitted_to, request_in, comes_to, posted_by, posted_as, posted, passed, refused, opened_turn, opening_by, opened_live, with_opened}
use Rattle.script_text.specs.Posted.{named_of}
use Rattle.script_text.specs.Refusing.{Cause, Creates, EndsItsSession, IsAmong, IsNoneLive, refusal_text}
use Rattle.script_text.specs.Said.{IsSaid, IsWellRead}
use Rattle.script_text.specs.Script.{PlainRun, Beginning, Arrivals, Bodies, PlainNext, Goes, Ends, Step, bad_step, done_step, change_step, begun, takes_host, with_host, host_step, post_step, host_alone, server_step, body_step, arrival_change, arrival_step, first_step, said_step, step_by, said, is_told, creation_text, request_text, Drive, after_step, ended_with, drive_on, drive_of}
use Rattle.script_text.specs.Stands.{IsEvent}
use Rattle.script_text.proofs.AccountLemmas.{Accounts, AccountsOn, AccountsAfter, none_told, posted_accounts, opened_accounts, pass_accounts, only_accounts, closed_accounts, comes_accounts}
use Rattle.script_text.proofs.AnswersLemmas.{Waiting, AsksHere, opened_answers}
use Rattle.script_text.proofs.HeadlineLemmas.{given_within, Follows, begun_holds, step_holds, well_said, new_holds}
use Rattle.script_text.proofs.OpeningLemmas.{opens}
use Rattle.script_text.proofs.PositionLemmas.{none_any, none_there, some_any, some_within}
use Rattle.script_text.proofs.ReportLemmas.{Holds, read_from}
use Rattle.script_text.proofs.SessionsLemmas.{all_at}
use Rattle.script_text.proofs.ToldLemmas.{none_out, same_number, told_turn}

-- One body.

-- whether a line came after which no host may is no cause
begun_cause : (m : PlainManager) (body : List ℕ) (condition : Condition) → Cause (begun m) body condition → Cause m body condition
begun_cause m body BadRequest cause = cause
begun_cause m body HostUnknown cause = cause
begun_cause m body ImproperAddressing cause = cause
begun_cause m body ItemNotFound cause = cause
begun_cause m body OtherRequest cause = cause
begun_cause m body PolicyViolation cause = cause
begun_cause m body RemoteConnectionFailed cause = cause
begun_cause m body RemoteStreamError cause = cause
begun_cause m body SystemShutdown cause = cause
begun_cause m body UndefinedCondition cause = cause

pub begun_caused : (m : PlainManager) (body : List ℕ) (condition : Condition) → Cause m body condition → Cause (begun m) body condition
begun_caused m body BadRequest cause = cause
begun_caused m body HostUnknown cause = cause
begun_caused m body ImproperAddressing cause = cause
begun_caused m body ItemNotFound cause = cause
begun_caused m body OtherRequest cause = cause
begun_caused m body PolicyViolation cause = cause
begun_caused m body RemoteConnectionFailed cause = cause
begun_caused m body RemoteStreamError cause = cause
begun_caused m body SystemShutdown cause = cause
begun_caused m body UndefinedCondition cause = cause

module _ (stages : List Stage) (stage : Stage) (report : List ReportLine) (over : List PlainLive) (m : PlainManager) (holds : Holds report over m)
    (accounts : AccountsOn stages stage [] over m.live m.opened) where
  abbrev Accounted : Change → Type 0
  Accounted change = AccountsAfter stages stage over change

  -- the body that the line posts, and the conditions with which it is refused where they have their causes
  module _ (conn : ℕ) (body : List ℕ) (latest : latest_on conn stage.posted ≡ Some body)
      (caused : (condition : Condition) → Cause m body condition → IsRefusal stage conn (refusal_text condition))
      (ends : (condition : Condition) → EndsItsSession stage.lines body condition → IsRefusal stage conn (refusal_text condition)) where
    refusal_accounts : (condition : Condition) → Cause m body condition → Accounted (refused m conn condition)
    refusal_accounts condition cause = only_accounts stages stage report over m holds accounts (Out conn (refusal_text condition)) (inl (caused condition cause))

    module _ (request : Request) (is : request_in body ≡ Some request) where
      asks : Asks stage.posted conn request
      asks = (body, latest, is)

      -- creations
      module _ (creation : Creation) (kind : request.kind ≡ kinds.Creation creation) where
        creates : (to : Option (List ℕ)) → request.to ≡ to → Creates body to
        creates to to_is = (request, is, to_is, (creation, kind))

        session_accounts : (host : HostName) → IsTrue (can_serve host) → nat_lt (length m.live) most_sessions && nat_lt m.opened most_openings ≡ true
            → Accounted (with_opened m (m.opened + 1) (opened_turn (m.opened + 1) conn (opening_by host (m.opened + 1) body request creation m.moment)))
        session_accounts host good room =
            let o : Opening = opening_by host (m.opened + 1) body request creation m.moment in
            let s : PlainLive = opened_live (m.opened + 1) o in
            let small : m.opened < most_openings = ltb-true m.opened most_openings (both_true (nat_lt (length m.live) most_sessions) (nat_lt m.opened most_openings) room).1 in
            let opening = opens host (m.opened + 1) m.moment body o.sid host.name request creation o.terms good (omega (arith, small)) (omega (arith, small)) refl refl (read_from body request is) kind refl in
            let turn = opened_turn (m.opened + 1) conn o in
            opened_accounts report over m.live m.opened s turn holds.tells refl
            (told_turn s (Out conn (answer_text (created_parts o)) ∷ []) (opening, nothing_made) (omega arith) (none_out conn (answer_text (created_parts o))))
            stage (opened_answers stage (m.opened + 1) conn o asks (opening, nothing_made)) stages accounts

        module _ (name : List ℕ) (to_is : request.to ≡ Some name) (some : 1 ≤ length name) where
          host_accounts : (place : ℕ) → position (λ (host : HostName). bytes_eq host.name name) m.hosts ≡ Some place → (o : Option HostName) → slice_get m.hosts place ≡ o
              → Accounted (at_host m conn body request creation o)
          host_accounts place there None at =
              let found = get_some m.hosts place (some_within (λ (host : HostName). bytes_eq host.name name) m.hosts place there) in
              absurd (none_some (slice_get m.hosts place) found.0 at found.1)
          host_accounts place there (Some host) at = split Accounted (nat_lt (length m.live) most_sessions && nat_lt m.opened most_openings) _ _
              (session_accounts host (all_at (λ host. IsTrue (can_serve host)) m.hosts place host at holds.hosts))
              (λ full. refusal_accounts UndefinedCondition
              (name, creates (Some name) to_is, some, some_any (λ (host : HostName). bytes_eq host.name name) m.hosts place there, full))

          named_accounts : (o : Option ℕ) → position (λ (host : HostName). bytes_eq host.name name) m.hosts ≡ o → Accounted (admitted_to m conn body request creation (host_at o))
          named_accounts None there = refusal_accounts HostUnknown (name, creates (Some name) to_is, some, none_any (λ (host : HostName). bytes_eq host.name name) m.hosts there)
          named_accounts (Some place) there = host_accounts place there (slice_get m.hosts place) refl

        admitted_accounts : (to : Option (List ℕ)) → request.to ≡ to → Accounted (admitted_to m conn body request creation (admitted_of to m.hosts))
        admitted_accounts None to_is = refusal_accounts ImproperAddressing (inl (creates None to_is))
        admitted_accounts (Some name) to_is = split (λ to. Accounted (admitted_to m conn body request creation to)) (length name == 0) _ _
            (λ empty. refusal_accounts ImproperAddressing (inr (creates (Some []) (to_is ∙ ap Some (nil_from_length name (eqb-true (length name) 0 empty))))))
            (λ some. named_accounts name to_is (omega (arith, eqb-false (length name) 0 some)) (position (λ (host : HostName). bytes_eq host.name name) m.hosts) refl)

      -- later requests
      not_live : (sid : List ℕ) → request.kind ≡ kinds.Later sid → IsNoneLive m sid → Cause m body ItemNotFound
      not_live sid kind none = (sid, (request, is, kind), none)

      later_accounts : (sid : List ℕ) → request.kind ≡ kinds.Later sid → (number : Option ℕ) → number_of sid ≡ number
          → stage.lines ≡ (comes_to m conn body request number).lines → Accounted (comes_to m conn body request number)
      later_accounts sid kind None names lines = refusal_accounts ItemNotFound (not_live sid kind (λ number is. absurd (none_some (number_of sid) number names is)))
      later_accounts sid kind (Some number) names lines =
          comes_accounts stages stage report over m holds accounts (Arrives conn request body) (read_from body request is, (sid, kind)) (not_found conn) number
          (λ none. inl (caused ItemNotFound (not_live sid kind
          (λ other is. subst (λ k. All (λ (s : PlainLive). is_numbered k s ≡ false) m.live) (some_is number other (sym names ∙ is)) (none_there (is_numbered number) m.live none)))))
          (λ s same told. (
            asks,
            inl (ap named_of kind ∙ names ∙ ap Some (sym same)),
            λ ending condition among place. ends condition (request, is, (s.number, ap named_of kind ∙ names ∙ ap Some (sym same), (ending, subst (IsAmong (Over s.number ending)) (sym told) among, place))),
          )) lines

      kind_accounts : (kind : Kind) → request.kind ≡ kind → stage.lines ≡ (posted_by m conn body request kind).lines → Accounted (posted_by m conn body request kind)
      kind_accounts (kinds.Later sid) kind lines = later_accounts sid kind (number_of sid) refl lines
      kind_accounts (kinds.Creation creation) kind lines = admitted_accounts creation kind request.to refl

    as_accounts : (o : Option Request) → request_in body ≡ o → stage.lines ≡ (posted_as m conn body o).lines → Accounted (posted_as m conn body o)
    as_accounts None is lines = refusal_accounts BadRequest is
    as_accounts (Some request) is lines = kind_accounts request is request.kind refl lines

    body_accounted : stage.lines ≡ (posted m conn body).lines → Accounted (posted m conn body)
    body_accounted lines = as_accounts (request_in body) refl lines

-- A script of the requests of one session has no answers in its report.

abbrev NoAnswer : ReportLine → Type 0
NoAnswer (In session item) = ⊤
NoAnswer (Out conn body) = ⊥
NoAnswer (Lost conn) = ⊤
NoAnswer (Gone conn) = ⊤
NoAnswer (Refused session refusal) = ⊤
NoAnswer (Over session ending) = ⊤
NoAnswer (SaysDone line) = ⊤
NoAnswer (SaysBad line kind) = ⊤

abbrev IsSilent : Stage → Type 0
IsSilent stage = All NoAnswer stage.lines

none_accounted : (opened : ℕ) (sessions : List PlainLive) (stage : Stage) (line : ReportLine) → NoAnswer line → IsAccounted opened sessions stage line
none_accounted opened sessions stage (In session item) is = tt
none_accounted opened sessions stage (Out conn body) is = absurd is
none_accounted opened sessions stage (Lost conn) is = tt
none_accounted opened sessions stage (Gone conn) is = tt
none_accounted opened sessions stage (Refused session refusal) is = tt
none_accounted opened sessions stage (Over session ending) is = tt
none_accounted opened sessions stage (SaysDone line) is = tt
none_accounted opened sessions stage (SaysBad line kind) is = tt

silent_accounted : (opened : ℕ) (sessions : List PlainLive) (stages : List Stage) → All IsSilent stages → All (AreAccounted opened sessions) stages
silent_accounted opened sessions stages silent = All-weaker IsSilent (AreAccounted opened sessions)
    (λ stage none. All-weaker NoAnswer (IsAccounted opened sessions stage) (none_accounted opened sessions stage) stage.lines none) stages silent

told_silent : (lines : List ReportLine) → All NoAnswer (filter is_told lines)
told_silent [] = All-nil NoAnswer
told_silent (In session item ∷ lines) = All-cons NoAnswer (In session item) (filter is_told lines) tt (told_silent lines)
told_silent (Out conn body ∷ lines) = told_silent lines
told_silent (Lost conn ∷ lines) = told_silent lines
told_silent (Gone conn ∷ lines) = told_silent lines
told_silent (Refused session refusal ∷ lines) = told_silent lines
told_silent (Over session ending ∷ lines) = All-cons NoAnswer (Over session ending) (filter is_told lines) tt (told_silent lines)
told_silent (SaysDone line ∷ lines) = All-cons NoAnswer (SaysDone line) (filter is_told lines) tt (told_silent lines)
told_silent (SaysBad line kind ∷ lines) = All-cons NoAnswer (SaysBad line kind) (filter is_told lines) tt (told_silent lines)

-- One line.

-- the lines so far are accounted for by what a script is run over
abbrev Keeps : List Stage → List Posting → List PlainLive → PlainRun → Type 0
Keeps stages posted over Beginning = All IsSilent stages
Keeps stages posted over (Arrivals m) = All IsSilent stages
Keeps stages posted over (Bodies m) = Accounts stages posted over m.live m.opened

abbrev FollowsKeeps : List Stage → Stage → List PlainLive → PlainManager → List PlainLive → PlainNext → Type 0
FollowsKeeps stages stage over m ended (Goes after) = Keeps (stages ++ stage ∷ []) stage.posted (over ++ ended) after
FollowsKeeps stages stage over m ended (Ends outcome) = All (AreAccounted m.opened ((over ++ ended) ++ m.live)) (stages ++ stage ∷ [])

abbrev StageKeeps : List Stage → LineRead → PlainRun → List Posting → List PlainLive → PlainManager → Step → Type 0
StageKeeps stages read before posted over m step = FollowsKeeps stages (stage_with posted before read step) over m step.over step.next

module _ (stages : List Stage) (over : List PlainLive) where
  -- after a line that changes the manager
  change_keeps : (stage : Stage) (change : Change) → stage.lines ≡ change.lines → AccountsAfter stages stage over change
      → Accounts (stages ++ stage ∷ []) stage.posted (over ++ change.over) change.after.live change.after.opened
  change_keeps stage change lines after =
      let P = AreAccounted change.after.opened ((over ++ change.over) ++ change.after.live) in
      record {
        earlier = All-append P stages (stage ∷ []) after.earlier
            (All-cons P stage [] (subst (All (IsAccounted change.after.opened ((over ++ change.over) ++ change.after.live) stage)) (sym lines) after.here) (All-nil P));
        waiting = after.waiting;
      }

  -- a last line
  last_keeps : (m : PlainManager) (stage : Stage) → All NoAnswer stage.lines → All (AreAccounted m.opened (over ++ m.live)) stages
      → All (AreAccounted m.opened ((over ++ []) ++ m.live)) (stages ++ stage ∷ [])
  last_keeps m stage none earlier =
      let P = AreAccounted m.opened (over ++ m.live) in
      subst (λ o. All (AreAccounted m.opened (o ++ m.live)) (stages ++ stage ∷ [])) (sym (append-nil over))
      (All-append P stages (stage ∷ []) earlier
      (All-cons P stage [] (All-weaker NoAnswer (IsAccounted m.opened (over ++ m.live) stage) (none_accounted m.opened (over ++ m.live) stage) stage.lines none) (All-nil P)))

no_answer : (line : ReportLine) → NoAnswer line → All NoAnswer (line ∷ [])
no_answer line none = All-cons NoAnswer line [] none (All-nil NoAnswer)

module _ (stages : List Stage) (read : LineRead) (before : PlainRun) (posted_so : List Posting) (report : List ReportLine) (over : List PlainLive) (m : PlainManager)
    (is : manager_of before ≡ m) (holds : Holds report over m) (accounts : Accounts stages posted_so over m.live m.opened) where
  bad_keeps : (posted : List Posting) (n : ℕ) (kind : BadKind) → StageKeeps stages read before posted over m (bad_step n kind)
  bad_keeps posted n kind = last_keeps stages over m (stage_with posted before read (bad_step n kind)) (no_answer (SaysBad n kind) tt) accounts.earlier

  -- a line that changes the manager, with what was posted up to it
  moves_keeps : (posted : List Posting) (change : Change) → AccountsAfter stages (stage_with posted before read (change_step change)) over change
      → StageKeeps stages read before posted over m (change_step change)
  moves_keeps posted change after = change_keeps stages over (stage_with posted before read (change_step change)) change refl after

  -- before any line of it was told
  begins : (change : Change) → AccountsOn stages (stage_with posted_so before read (change_step change)) [] over m.live m.opened
  begins change = none_told stages (stage_with posted_so before read (change_step change)) over m.live m.opened accounts

  host_keeps : (name : List ℕ) (greeting : List (List ℕ)) (n : ℕ) → StageKeeps stages read before posted_so over m (host_step m n name greeting)
  host_keeps name greeting n = split (StageKeeps stages read before posted_so over m) (takes_host m name) _ _
      (λ takes.
      let stage : Stage = stage_with posted_so before read (record { lines = []; next = Goes (Bodies (with_host m name greeting)); over = [] }) in
      let P = AreAccounted m.opened (over ++ m.live) in
      subst (λ o. Accounts (stages ++ stage ∷ []) posted_so o m.live m.opened) (sym (append-nil over)) (record {
        earlier = All-append P stages (stage ∷ []) accounts.earlier (All-cons P stage [] (All-nil (IsAccounted m.opened (over ++ m.live) stage)) (All-nil P));
        waiting = accounts.waiting;
      }))
      (λ not. bad_keeps posted_so n _)

  server_keeps : (n : ℕ) (event : Event) → IsEvent event → ((stage : Stage) (s : PlainLive) → AsksHere stage s m.moment event) → (refusal : Refusal) (number : Option ℕ)
      → StageKeeps stages read before posted_so over m (server_step m n event refusal number)
  server_keeps n event allowed here refusal None = bad_keeps posted_so n _
  server_keeps n event allowed here refusal (Some number) =
      let change : Change = comes (begun m) event (Refused number refusal) number in
      let stage : Stage = stage_with posted_so before read (change_step change) in
      moves_keeps posted_so change
      (comes_accounts stages stage report over (begun m) (begun_holds report over m holds) (begins change) event allowed (Refused number refusal) number (λ none. tt)
      (λ s same lines. here stage s) refl)

  -- a body comes on a connection on which nothing waits
  post_keeps : (conn : ℕ) (body : List ℕ) → read ≡ Line (Post conn body) → (n : ℕ)
      → StageKeeps stages read before (record { conn = conn; body = body } ∷ posted_so) over m (post_step m n conn body)
  post_keeps conn body says n =
      let posting : Posting = record { conn = conn; body = body } in
      split (StageKeeps stages read before (posting ∷ posted_so) over m) (is_waiting m conn) _ _
      (λ waits. bad_keeps (posting ∷ posted_so) n _)
      (λ free.
      let change : Change = posted (begun m) conn body in
      let stage : Stage = stage_with (posting ∷ posted_so) before read (change_step change) in
      moves_keeps (posting ∷ posted_so) change
      (body_accounted stages stage report over (begun m) (begun_holds report over m holds)
      (none_told stages stage over m.live m.opened (posted_accounts posted_so posting stages over m.live m.opened free accounts)) conn body
      (ap (λ b. if b then Some body else latest_on conn posted_so) (same_number conn))
      (λ condition cause. (body, condition, says, refl, inl (subst (λ (k : PlainManager). Cause k body condition) (sym is) (begun_cause m body condition cause))))
      (λ condition ended. (body, condition, says, refl, inr ended))
      refl))

  body_keeps : (n : ℕ) (line : ScriptLine) → read ≡ Line line → IsSaid line → StageKeeps stages read before (postings_of line ++ posted_so) over m (body_step m n line)
  body_keeps n (Open rid) says well = bad_keeps posted_so n _
  body_keeps n (Short rid stanza) says well = bad_keeps posted_so n _
  body_keeps n (Host name greeting) says well = host_keeps name greeting n
  body_keeps n (At moment) says well = split (StageKeeps stages read before posted_so over m) (nat_lt moment m.moment) _ _ (λ back. bad_keeps posted_so n _)
      (λ forth. moves_keeps posted_so (passed m moment)
      (pass_accounts moment m.opened stages (stage_with posted_so before read (change_step (passed m moment))) m.live report [] over [] holds.tells (begins (passed m moment))))
  body_keeps n (Post conn body) says well = post_keeps conn body says n
  body_keeps n (Close conn) says well = split (StageKeeps stages read before posted_so over m) (is_waiting m conn) _ _
      (λ waits. moves_keeps posted_so (closed (begun m) conn)
      (closed_accounts stages (stage_with posted_so before read (change_step (closed (begun m) conn))) report over (begun m) (begun_holds report over m holds) (begins (closed (begun m) conn)) conn))
      (λ free. bad_keeps posted_so n _)
  body_keeps n (Back sid stream stanza) says well = server_keeps n (Gives stream stanza) well (λ stage s. tt) BackOver (given_within m.opened (number_of sid))
  body_keeps n (Shut sid stream closing) says well = server_keeps n (Shuts stream closing) tt (λ stage s. tt) ShutOver (given_within m.opened (number_of sid))
  body_keeps n LastLine says well = last_keeps stages over m (stage_with posted_so before read (done_step n)) (no_answer (SaysDone n) tt) accounts.earlier

module _ (stages : List Stage) (read : LineRead) (before : PlainRun) (posted_so : List Posting) (over : List PlainLive) (silent : All IsSilent stages) where
  silent_bad : (m : PlainManager) (n : ℕ) (kind : BadKind) → StageKeeps stages read before posted_so over m (bad_step n kind)
  silent_bad m n kind = last_keeps stages over m (stage_with posted_so before read (bad_step n kind)) (no_answer (SaysBad n kind) tt) (silent_accounted m.opened (over ++ m.live) stages silent)

  silent_done : (m : PlainManager) (n : ℕ) → StageKeeps stages read before posted_so over m (done_step n)
  silent_done m n = last_keeps stages over m (stage_with posted_so before read (done_step n)) (no_answer (SaysDone n) tt) (silent_accounted m.opened (over ++ m.live) stages silent)

  silent_change : (m : PlainManager) (change : Change) → StageKeeps stages read before posted_so over m (arrival_change change)
  silent_change m change =
      let stage : Stage = stage_with posted_so before read (arrival_change change) in
      All-append IsSilent stages (stage ∷ []) silent (All-cons IsSilent stage [] (told_silent change.lines) (All-nil IsSilent))

  arrival_keeps : (m : PlainManager) (n : ℕ) (line : ScriptLine) → StageKeeps stages read before posted_so over m (arrival_step m n line)
  arrival_keeps m n (Open rid) = silent_bad m n _
  arrival_keeps m n (Short rid stanza) = silent_change m (posted m 0 (request_text rid stanza))
  arrival_keeps m n (Host name greeting) = silent_bad m n _
  arrival_keeps m n (At moment) = silent_bad m n _
  arrival_keeps m n (Post conn body) = silent_bad m n _
  arrival_keeps m n (Close conn) = silent_bad m n _
  arrival_keeps m n (Back sid stream stanza) = silent_bad m n _
  arrival_keeps m n (Shut sid stream closing) = silent_bad m n _
  arrival_keeps m n LastLine = silent_done m n

module _ (stages : List Stage) (read : LineRead) (posted_so : List Posting) (report : List ReportLine) (over : List PlainLive) where
  -- nothing waits at the beginning
  new_accounts : All IsSilent stages → Accounts stages posted_so over [] 0
  new_accounts silent = record {
    earlier = silent_accounted 0 (over ++ []) stages silent;
    waiting = All-nil (Waiting posted_so);
  }

  first_keeps : Holds report over new_manager → All IsSilent stages → (n : ℕ) (line : ScriptLine) → read ≡ Line line → IsSaid line
      → StageKeeps stages read Beginning (postings_of line ++ posted_so) over new_manager (first_step n line)
  first_keeps holds silent n (Open rid) says well = silent_change stages read Beginning posted_so over silent new_manager (posted host_alone 0 (creation_text rid))
  first_keeps holds silent n (Short rid stanza) says well = silent_bad stages read Beginning posted_so over silent new_manager n _
  first_keeps holds silent n (Host name greeting) says well = body_keeps stages read Beginning posted_so report over new_manager refl holds (new_accounts silent) n (Host name greeting) says well
  first_keeps holds silent n (At moment) says well = body_keeps stages read Beginning posted_so report over new_manager refl holds (new_accounts silent) n (At moment) says well
  first_keeps holds silent n (Post conn body) says well = body_keeps stages read Beginning posted_so report over new_manager refl holds (new_accounts silent) n (Post conn body) says well
  first_keeps holds silent n (Close conn) says well = body_keeps stages read Beginning posted_so report over new_manager refl holds (new_accounts silent) n (Close conn) says well
  first_keeps holds silent n (Back sid stream stanza) says well = body_keeps stages read Beginning posted_so report over new_manager refl holds (new_accounts silent) n (Back sid stream stanza) says well
  first_keeps holds silent n (Shut sid stream closing) says well = body_keeps stages read Beginning posted_so report over new_manager refl holds (new_accounts silent) n (Shut sid stream closing) says well
  first_keeps holds silent n LastLine says well = silent_done stages read Beginning posted_so over silent new_manager n

  said_keeps : (run : PlainRun) → Holds report over (manager_of run) → Keeps stages posted_so over run → (n : ℕ) (line : ScriptLine) → read ≡ Line line → IsSaid line
      → StageKeeps stages read run (postings_of line ++ posted_so) over (manager_of run) (said_step run n line)
  said_keeps Beginning holds keeps n line says well = first_keeps holds keeps n line says well
  said_keeps (Arrivals m) holds keeps n line says well = arrival_keeps stages read (Arrivals m) (postings_of line ++ posted_so) over keeps m n line
  said_keeps (Bodies m) holds keeps n line says well = body_keeps stages read (Bodies m) posted_so report over m refl holds keeps n line says well

  bad_run : (run : PlainRun) → Holds report over (manager_of run) → Keeps stages posted_so over run → (n : ℕ) (kind : BadKind)
      → StageKeeps stages read run posted_so over (manager_of run) (bad_step n kind)
  bad_run Beginning holds keeps n kind = silent_bad stages read Beginning posted_so over keeps new_manager n kind
  bad_run (Arrivals m) holds keeps n kind = silent_bad stages read (Arrivals m) posted_so over keeps m n kind
  bad_run (Bodies m) holds keeps n kind = bad_keeps stages read (Bodies m) posted_so report over m refl holds keeps posted_so n kind

step_keeps : (stages : List Stage) (posted_so : List Posting) (report : List ReportLine) (over : List PlainLive) (run : PlainRun) → Holds report over (manager_of run)
    → Keeps stages posted_so over run → (n : ℕ) (read : LineRead) → IsWellRead read
    → StageKeeps stages read run (postings_in read ++ posted_so) over (manager_of run) (step_by run n read)
step_keeps stages posted_so report over run holds keeps n (Line line) well = said_keeps stages (Line line) posted_so report over run holds keeps n line refl well
step_keeps stages posted_so report over run holds keeps n (BadLine kind) well = bad_run stages (BadLine kind) posted_so report over run holds keeps n kind

-- Whole scripts.

abbrev DriveAccounts : List Stage → List PlainLive → Drive → Type 0
DriveAccounts stages over drive = All (AreAccounted (manager_of drive.last).opened ((over ++ drive.over) ++ (manager_of drive.last).live)) stages

drive_accounts : (lines : List (List ℕ)) (run : PlainRun) (n : ℕ) (stages : List Stage) (posted_so : List Posting) (report : List ReportLine) (over : List PlainLive)
    → Holds report over (manager_of run) → Keeps stages posted_so over run → DriveAccounts (stages ++ stages_on posted_so run n lines) over (drive_on run n lines)
drive_accounts [] run n stages posted_so report over holds keeps = step_keeps stages posted_so report over run holds keeps n (BadLine _) tt
drive_accounts (line ∷ others) run n stages posted_so report over holds keeps =
    by (λ after. drive_accounts others after (n + 1)) (step_by run n (said n line)).next
    (step_holds report over run holds n (said n line) (well_said n line)) (step_keeps stages posted_so report over run holds keeps n (said n line) (well_said n line))
  where
    by : ((after : PlainRun) (stages : List Stage) (posted_so : List Posting) (report : List ReportLine) (over : List PlainLive) → Holds report over (manager_of after)
        → Keeps stages posted_so over after → DriveAccounts (stages ++ stages_on posted_so after (n + 1) others) over (drive_on after (n + 1) others))
        → (next : PlainNext) → Follows report over (manager_of run) (step_by run n (said n line)).lines (step_by run n (said n line)).over next
        → FollowsKeeps stages (stage_of posted_so run n (said n line)) over (manager_of run) (step_by run n (said n line)).over next
        → DriveAccounts (stages ++ stage_of posted_so run n (said n line) ∷ elim next [
          | Goes after ↦ stages_on (postings_in (said n line) ++ posted_so) after (n + 1) others
          | Ends outcome ↦ []
        ]) over (elim next [
          | Goes after ↦ after_step (step_by run n (said n line)) (drive_on after (n + 1) others)
          | Ends outcome ↦ ended_with run (step_by run n (said n line)) outcome
        ])
    by rest (Goes after) follows kept =
        let step : Step = step_by run n (said n line) in
        let stage : Stage = stage_of posted_so run n (said n line) in
        let drive : Drive = drive_on after (n + 1) others in
        let last : PlainManager = manager_of drive.last in
        let more : List Stage = stages_on stage.posted after (n + 1) others in
        subst (λ st. All (AreAccounted last.opened ((over ++ (step.over ++ drive.over)) ++ last.live)) st) (append_assoc stages (stage ∷ []) more)
        (subst (λ o. All (AreAccounted last.opened (o ++ last.live)) ((stages ++ stage ∷ []) ++ more)) (append_assoc over step.over drive.over)
        (rest after (stages ++ stage ∷ []) stage.posted (report ++ step.lines) (over ++ step.over) follows kept))
    by rest (Ends outcome) follows kept = kept

-- each answer is what a session gave the id of the latest request on its connection, or a refusal
pub answers_accounted : (script : List ℕ) → All (AreAccounted (opened_by (drive_of script)) (sessions_of (drive_of script))) (stages_by script)
answers_accounted script = drive_accounts (lines_of script) Beginning 1 [] [] [] [] new_holds (All-nil IsSilent)

-- the report is what is told line by line
told_by_stages : (lines : List (List ℕ)) (run : PlainRun) (n : ℕ) (posted_so : List Posting) → lines_told (stages_on posted_so run n lines) ≡ (drive_on run n lines).report
told_by_stages [] run n posted_so = refl
told_by_stages (line ∷ others) run n posted_so = by (λ after. told_by_stages others after (n + 1) (postings_in (said n line) ++ posted_so)) (step_by run n (said n line)).next
  where
    by : ((after : PlainRun) → lines_told (stages_on (postings_in (said n line) ++ posted_so) after (n + 1) others) ≡ (drive_on after (n + 1) others).report)
        → (next : PlainNext)
        → (step_by run n (said n line)).lines ++ lines_told (elim next [
          | Goes after ↦ stages_on (postings_in (said n line) ++ posted_so) after (n + 1) others
          | Ends outcome ↦ []
        ])
        ≡ (elim next as (λ x. Drive) [
          | Goes after ↦ after_step (step_by run n (said n line)) (drive_on after (n + 1) others)
          | Ends outcome ↦ ended_with run (step_by run n (said n line)) outcome
        ]).report
    by rest (Goes after) = ap (λ l. (step_by run n (said n line)).lines ++ l) (rest after)
    by rest (Ends outcome) = append-nil (step_by run n (said n line)).lines

pub report_by_stages : (script : List ℕ) → lines_told (stages_by script) ≡ (drive_of script).report
report_by_stages script = told_by_stages (lines_of script) Beginning 1 []
