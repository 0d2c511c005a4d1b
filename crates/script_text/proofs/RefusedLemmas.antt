-- A body that has a cause to be refused is refused with its condition, and no session is touched.
use Rattle.std.proofs.Common.{◌≡◌, ℕ, ◌+◌, ◌≤◌, ◌==◌, false, true, List, [], ◌∷◌, ◌++◌, All, Option, Some, None, length, refl, sym, subst, ◌∙◌, ap, arith, inl, inr, if◌then◌else◌}
use Rattle.std.specs.Prelude.{◌⊎◌, position, slice_get}
use Rattle.std.specs.Str.{bytes_eq}
use Rattle.std.proofs.lemmas.Bool.{ne_eqb}
use Rattle.std.proofs.lemmas.List.Folds.{list_any_none}
use Rattle.bosh_types.specs.declared.condition.Condition.{Condition}
use Rattle.bosh_types.specs.declared.condition.Condition.TheVariants.{BadRequest, HostUnknown, ImproperAddressing, ItemNotFound, OtherRequest, PolicyViolation, RemoteConnectionFailed, RemoteStreamError, SystemShutdown, UndefinedCondition}
use Rattle.bosh_types.specs.declared.hosts.HostName.{HostName}
use Rattle.session_attrs.specs.declared.request.Creation.{Creation}
use Rattle.session_attrs.specs.declared.request.Kind.TheVariants as kinds
use Rattle.session_attrs.specs.declared.request.Request.{Request}
use Rattle.session_attrs.specs.Admission.{admitted_of, host_at, place_of as host_place}
use Rattle.session_laws.proofs.Lists.{get_some}
use Rattle.session_laws.proofs.Tests.{if_false}
use Rattle.script_text.specs.declared.event.Event.TheVariants.{Arrives}
use Rattle.script_text.specs.declared.line.BadKind.TheVariants.{Connection}
use Rattle.script_text.specs.declared.line.LineRead.{LineRead}
use Rattle.script_text.specs.declared.line.LineRead.TheVariants.{Line}
use Rattle.script_text.specs.declared.line.ScriptLine.TheVariants.{Post}
use Rattle.script_text.specs.declared.report.ReportLine.TheVariants.{Out}
use Rattle.script_text.specs.Answered.{IsRefused, over_bodies, sessions_after, stages_by}
use Rattle.script_text.specs.Headline.{is_numbered}
use Rattle.script_text.specs.Live.{PlainLive, not_found}
use Rattle.script_text.specs.Manager.{PlainManager, Change, admitted_to, at_host, comes, comes_at, comes_to, has_room, is_waiting, new_manager, number_of, only, posted, posted_as, posted_by, refused, request_in}
use Rattle.script_text.specs.Refusing.{Cause, refusal_text}
use Rattle.script_text.specs.Script.{PlainRun, Beginning, Arrivals, Bodies, Step, bad_step, begun, change_step, post_step, step_by}
use Rattle.script_text.proofs.AnsweredLemmas.{begun_caused}
use Rattle.script_text.proofs.PositionLemmas.{position_none, position_some}
use Rattle.script_text.proofs.StageLemmas.{OfEach, every_stage}

module _ (m : PlainManager) (conn : ℕ) (body : List ℕ) where
  abbrev IsRefusedWith : Condition → Change → Type 0
  IsRefusedWith condition change = change ≡ refused m conn condition

  -- creations
  module _ (request : Request) (creation : Creation) where
    improper : (to : Option (List ℕ)) → (to ≡ None) ⊎ (to ≡ Some []) → IsRefusedWith ImproperAddressing (admitted_to m conn body request creation (admitted_of to m.hosts))
    improper to (inl is) = ap (λ t. admitted_to m conn body request creation (admitted_of t m.hosts)) is
    improper to (inr is) = ap (λ t. admitted_to m conn body request creation (admitted_of t m.hosts)) is

    named : (name : List ℕ) → 1 ≤ length name → admitted_of (Some name) m.hosts ≡ host_at (host_place name m.hosts)
    named name some = if_false (length name == 0) _ _ (ne_eqb (length name) 0 (λ none. absurd (omega (arith, some, none))))

    unknown : (name : List ℕ) → 1 ≤ length name → position (λ (host : HostName). bytes_eq host.name name) m.hosts ≡ None
        → IsRefusedWith HostUnknown (admitted_to m conn body request creation (admitted_of (Some name) m.hosts))
    unknown name some none = ap (admitted_to m conn body request creation) (named name some ∙ ap host_at none)

    no_room : (name : List ℕ) → 1 ≤ length name → (k : ℕ) → position (λ (host : HostName). bytes_eq host.name name) m.hosts ≡ Some k → has_room (length m.live) m.opened ≡ false
        → (host : HostName) → slice_get m.hosts k ≡ Some host
        → IsRefusedWith UndefinedCondition (admitted_to m conn body request creation (admitted_of (Some name) m.hosts))
    no_room name some k there full host at =
        ap (admitted_to m conn body request creation) (named name some ∙ ap host_at there)
        ∙ ap (at_host m conn body request creation) at
        ∙ if_false (has_room (length m.live) m.opened) _ _ full

  -- requests for a session that isn't live
  not_live : (request : Request) (number : Option ℕ) → ((k : ℕ) → number ≡ Some k → All (λ s. is_numbered k s ≡ false) m.live)
      → IsRefusedWith ItemNotFound (comes_to m conn body request number)
  not_live request None none = refl
  not_live request (Some number) none =
      let absent : position (is_numbered number) m.live ≡ None = position_none (is_numbered number) m.live (list_any_none (is_numbered number) m.live (none number refl)) in
      ap (λ o. elim o as (λ x. Change) [
        | None ↦ only m (not_found conn)
        | Some place ↦ comes_at m (Arrives conn request body) (not_found conn) place (slice_get m.live place)
      ]) absent

  module _ (request : Request) (is : request_in body ≡ Some request) where
    later : (sid : List ℕ) → request.kind ≡ kinds.Later sid → posted m conn body ≡ comes_to m conn body request (number_of sid)
    later sid kind = ap (posted_as m conn body) is ∙ ap (posted_by m conn body request) kind

    creating : (creation : Creation) → request.kind ≡ kinds.Creation creation → posted m conn body ≡ admitted_to m conn body request creation (admitted_of request.to m.hosts)
    creating creation kind = ap (posted_as m conn body) is ∙ ap (posted_by m conn body request) kind

  pub posted_refused : (condition : Condition) → Cause m body condition → IsRefusedWith condition (posted m conn body)
  posted_refused BadRequest cause = ap (posted_as m conn body) cause
  posted_refused ItemNotFound (sid, (request, is, kind), none) = later request is sid kind ∙ not_live request (number_of sid) none
  posted_refused ImproperAddressing (inl (request, is, to, (creation, kind))) = creating request is creation kind ∙ improper request creation request.to (inl to)
  posted_refused ImproperAddressing (inr (request, is, to, (creation, kind))) = creating request is creation kind ∙ improper request creation request.to (inr to)
  posted_refused HostUnknown (name, (request, is, to, (creation, kind)), some, none) =
      creating request is creation kind
      ∙ ap (λ t. admitted_to m conn body request creation (admitted_of t m.hosts)) to
      ∙ unknown request creation name some (position_none (λ (host : HostName). bytes_eq host.name name) m.hosts none)
  posted_refused UndefinedCondition (name, (request, is, to, (creation, kind)), some, any, full) =
      let there = position_some (λ (host : HostName). bytes_eq host.name name) m.hosts any in
      let host = get_some m.hosts there.0 there.1.0 in
      creating request is creation kind
      ∙ ap (λ t. admitted_to m conn body request creation (admitted_of t m.hosts)) to
      ∙ no_room request creation name some there.0 there.1.1 full host.0 host.1
  posted_refused OtherRequest cause = absurd cause
  posted_refused PolicyViolation cause = absurd cause
  posted_refused RemoteConnectionFailed cause = absurd cause
  posted_refused RemoteStreamError cause = absurd cause
  posted_refused SystemShutdown cause = absurd cause

-- a line that posts it
post_refused : (m : PlainManager) (conn : ℕ) (body : List ℕ) (condition : Condition) → is_waiting m conn ≡ false → Cause m body condition → (n : ℕ)
    → post_step m n conn body ≡ change_step (refused (begun m) conn condition)
post_refused m conn body condition free cause n =
    if_false (is_waiting m conn) (bad_step n Connection) (change_step (posted (begun m) conn body)) free
    ∙ ap change_step (posted_refused (begun m) conn body condition (begun_caused m body condition cause))

stage_refused : OfEach IsRefused
stage_refused posted report over run holds n read well m conn body condition before says free cause = by run before
  where
    Is : PlainRun → LineRead → Type 0
    Is run read = ((step_by run n read).lines ≡ Out conn (refusal_text condition) ∷ []) × (sessions_after run (step_by run n read) ≡ m.live)

    of_step : (run : PlainRun) → step_by run n (Line (Post conn body)) ≡ change_step (refused (begun m) conn condition) → Is run (Line (Post conn body))
    of_step run is = (ap (λ (step : Step). step.lines) is, ap (sessions_after run) is)

    by : (run : PlainRun) → over_bodies run ≡ Some m → Is run read
    by Beginning is =
        let same : new_manager ≡ m = cc in
        subst (Is Beginning) (sym says) (of_step Beginning
        (subst (λ k. post_step k n conn body ≡ change_step (refused (begun m) conn condition)) (sym same) (post_refused m conn body condition free cause n)))
    by (Arrivals k) is = absurd (cc)
    by (Bodies k) is =
        let same : k ≡ m = cc in
        subst (Is (Bodies k)) (sym says) (of_step (Bodies k)
        (subst (λ k. post_step k n conn body ≡ change_step (refused (begun m) conn condition)) (sym same) (post_refused m conn body condition free cause n)))

pub bodies_refused : (script : List ℕ) → All IsRefused (stages_by script)
bodies_refused script = every_stage IsRefused stage_refused script
