-- A request whose id has a kept answer is given its bytes.
use Rattle.std.proofs.Common.{◌≡◌, ℕ, ◌+◌, false, List, [], ◌∷◌, ◌++◌, All, map, Some, None, refl, sym, subst, ◌∙◌, if◌then◌else◌}
use Rattle.std.specs.Prelude.{slice_get}
use Rattle.bosh_types.specs.declared.kept.KeptAnswer.{KeptAnswer}
use Rattle.session_attrs.specs.declared.request.Kind.{Kind}
use Rattle.session_attrs.specs.declared.request.Kind.TheVariants as kinds
use Rattle.session_core.specs.declared.replies.Arrived.{Arrived}
use Rattle.session_core.specs.declared.replies.Arrived.TheVariants as arrivals
use Rattle.session_core.specs.Journal.{Arrive, Journal, IsJournal, ToArrive}
use Rattle.session_core.specs.Machine.{arrive}
use Rattle.session_laws.specs.Laws.{KeptLaws}
use Rattle.script_text.specs.declared.event.Event.TheVariants.{Arrives}
use Rattle.script_text.specs.declared.line.BadKind.TheVariants.{Connection}
use Rattle.script_text.specs.declared.report.ReportLine.{ReportLine}
use Rattle.script_text.specs.declared.report.ReportLine.TheVariants.{In, Out}
use Rattle.script_text.specs.Answered.{Repeats, GivesKept, stages_by}
use Rattle.script_text.specs.Refusing.{IsAmong}
use Rattle.script_text.specs.Headline.{manager_of}
use Rattle.session_calls.specs.After.{after_call, untaken}
use Rattle.script_text.specs.Live.{PlainLive, state, told, with_journal, arrived, turn_at, not_found}
use Rattle.script_text.specs.Manager.{PlainManager, Change, only, is_waiting, comes_at, comes, comes_to, posted_by, posted_as, posted}
use Rattle.script_text.specs.Posted.{named_of}
use Rattle.script_text.specs.Script.{Bodies, begun, bad_step, change_step, post_step, step_by}
use Rattle.script_text.proofs.ReportLemmas.{Holds}
use Rattle.script_text.proofs.SessionsLemmas.{GoesOn, all_at}
use Rattle.script_text.proofs.StageLemmas.{OfEach, every_stage}
use Rattle.script_text.proofs.TicketIds.{called_reply}

same_reply : (r told : Arrived) → ToArrive r ≡ ToArrive told → r ≡ told
same_reply r told is = cc

module _ (laws : (journal : Journal) → IsJournal journal → KeptLaws journal) where
  module _ (report : List ReportLine) (over : List PlainLive) (m : PlainManager) (holds : Holds report over m) (conn : ℕ) (body : List ℕ) (answer : KeptAnswer) (r : Repeats m body answer) where
    abbrev line : ReportLine
    line = Out conn answer.bytes

    reply_is : (arrive (state r.session) r.request body m.moment).1 ≡ arrivals.Answer answer.bytes
    reply_is =
        let made = ((all_at (GoesOn report) m.live r.place r.session r.here holds.tells.going).up).made in
        same_reply (arrive (state r.session) r.request body m.moment).1 (arrivals.Answer answer.bytes)
        (sym (called_reply (arrive (state r.session) r.request body m.moment)) ∙ (laws r.session.journal made).repeats r.request body m.moment answer r.goes_on r.room r.kept)

    abbrev journal_then : Journal
    journal_then = after_call r.session.journal (Arrive r.request body m.moment)

    turn_gives : IsAmong line (turn_at m.moment (Arrives conn r.request body) r.session).lines
    turn_gives = subst (λ reply. IsAmong line (arrived (with_journal r.session journal_then) conn reply).lines) (sym reply_is)
        (map (In r.session.number) (untaken journal_then), _, refl)

    place_gives : IsAmong line (comes (begun m) (Arrives conn r.request body) (not_found conn) r.session.number).lines
    place_gives = subst (λ o. IsAmong line (elim o as (λ x. Change) [
      | None ↦ only (begun m) (not_found conn)
      | Some place ↦ comes_at (begun m) (Arrives conn r.request body) (not_found conn) place (slice_get m.live place)
    ]).lines) (sym r.there) (subst (λ o. IsAmong line (comes_at (begun m) (Arrives conn r.request body) (not_found conn) r.place o).lines) (sym r.here) turn_gives)

    kind_gives : (kind : Kind) → named_of kind ≡ Some r.session.number → IsAmong line (posted_by (begun m) conn body r.request kind).lines
    kind_gives (kinds.Later sid) names = subst (λ o. IsAmong line (comes_to (begun m) conn body r.request o).lines) (sym names) place_gives
    kind_gives (kinds.Creation creation) names = absurd (cc)

    body_gives : IsAmong line (posted (begun m) conn body).lines
    body_gives = subst (λ o. IsAmong line (posted_as (begun m) conn body o).lines) (sym r.reads) (kind_gives r.request.kind r.named)

    line_gives : (n : ℕ) → is_waiting m conn ≡ false → IsAmong line (post_step m n conn body).lines
    line_gives n free = subst (λ b. IsAmong line (if b then bad_step n Connection else change_step (posted (begun m) conn body)).lines) (sym free) body_gives

  stage_gives : OfEach GivesKept
  stage_gives posted report over run holds n read well m conn body answer before says free r =
      let here = subst (λ run. Holds report over (manager_of run)) before holds in
      subst (λ run. IsAmong (Out conn answer.bytes) (step_by run n read).lines) (sym before)
      (subst (λ read. IsAmong (Out conn answer.bytes) (step_by (Bodies m) n read).lines) (sym says) (line_gives report over m here conn body answer r n free))

  -- along every script
  pub repeats_given : (script : List ℕ) → All GivesKept (stages_by script)
  repeats_given script = every_stage GivesKept stage_gives script
