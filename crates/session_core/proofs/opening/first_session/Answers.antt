use Rattle.std.proofs.Common.{◌≡◌, ◌∙◌, ◌+◌, ◌==◌, ◌∷◌, ◌++◌, [], List, Bool, true, false, None, ap, refl, subst}
use Rattle.bosh_types.specs.declared.inward.Inward.{Inward}
use Rattle.bosh_types.specs.declared.kept.KeptAnswer.{KeptAnswer}
use Rattle.ack_report.specs.Reporting.{Reporting}
use Rattle.reply_keep.specs.StandsFor as keeps
use Rattle.rid_window.specs.PlainWindow.{id_after}
use Rattle.rid_window.specs.StandsFor as windows
use Rattle.session_core.specs.declared.copy.RequestCopy.{RequestCopy}
use Rattle.session_core.specs.Copy.{is_poll, unnamed}
use Rattle.session_core.specs.Processed.{items_by, targets_among}
use Rattle.session_core.specs.Machine.{creation_of}
use Rattle.session_core.specs.StandsFor.{StandsFor}
use Rattle.session_core.proofs.OpenedLemmas.{opened_holds}
use Rattle.session_core.proofs.opening.first_session.Goals as goal

pub returns : goal.returns
unfolding StandsFor
returns c = λ is.
    let o = c.args.opening.now in
    let copy : record { request = c.in_ok-copied_request.field-0; body = c.in_ok-again.field-0; arrived = o.at } ≡ creation_of o =
    (λ i. record { request = c.in_ok-copied_request.ensures i; body = c.in_ok-again.ensures i; arrived = o.at }) in
    let key = c.start.ensures ∙ c.in_ok-newkey.ensures in
    let reporting = c.new-acks.ensures ∙ ap {B = Reporting} (λ (on : Bool). record { on = on; due = None }) c.asks_ack.ensures in
    let empty = c.is_poll.ensures ∙ ap is_poll copy in
    let targets : c.targets_among-targets.result ≡ targets_among (unnamed ∷ []) o.request.stream =
    c.targets_among-targets.ensures
    ∙ (λ i. targets_among (c.new-streams.ensures i).running ((c.as_ref.ensures.value ∙ ap (λ (p : RequestCopy). p.request.stream) copy) i)) in
    opened_holds o _
    (λ i. record {
      pace = record { terms = c.new-2.ensures.terms i; period = c.new-2.ensures.period i };
      key = key i;
      reporting = reporting i;
      now = o.at;
      last_arrival = o.at;
      last_error = c.from_millis.ensures i;
      counted = c.cost_of_body.ensures i;
      limit = o.limit;
      gap_waits = o.gap_waits;
      ending = None;
    })
    refl refl c.new-3.ensures (λ i. record { arrived = o.at; empty = empty i; creation = true; bare = false }) refl
    (ap (λ (a : KeptAnswer). a.payloads == 0) is)
    (subst (λ (a : KeptAnswer). keeps.StandsFor c.in_ok-keep.keep (record { put = (o.request.rid, a) ∷ []; acknowledged = 0; size = o.terms.requests + 1 })) is
    c.in_ok-keep.ensures)
    (subst (λ (p : RequestCopy). windows.StandsFor c.in_ok-window.window (record { placed = (o.request.rid, p) ∷ []; next = id_after o.request.rid; width = o.terms.requests }))
    (c.in_ok-new.ensures ∙ copy) c.in_ok-window.ensures)
    (c.in_ok-pass_inward.ensures
    ∙ ap (λ (items : List Inward). items ++ items_by (record { request = c.in_ok-copied_request.field-0; body = c.in_ok-again.field-0; arrived = o.at }) c.targets_among-targets.result None) c.new-inward.ensures
    ∙ (λ i. items_by (copy i) (targets i) None)) c.new-4.ensures c.new-streams.ensures c.new-5.ensures
