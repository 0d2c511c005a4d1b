use Rattle.std.proofs.Common.{◌+◌, ◌*◌, take, ap, arith, subst, sym, List, ◌∙◌}
use Rattle.std.specs.List.{list_any}
use Rattle.std.proofs.lemmas.List.{take_all}
use Rattle.pause_rules.specs.Due.{IsFirstMoment, is_wait_due}
use Rattle.session_core.specs.declared.held.HeldRequest.{HeldRequest}
use Rattle.session_core.proofs.DueLemmas.{IsFirst, moment_small, waits_more}
use Rattle.session_core.proofs.held.HeldRequests.first_wait_due.Goals as goal

pub loop-index-preserved : goal.loop-index-preserved
loop-index-preserved c =
    let terms = c.args.deadlines.now.terms in
    let request : HeldRequest = c.index.result.now in
    subst (IsFirst _) (sym c.earlier_of-first.ensures)
    (waits_more terms c.self.inside.requests.items c.loop-index.index request request c.loop-index.first c.wait_due_at-due.result (omega arith) (sym c.index.ensures) c.loop-index.invariant
    (record { first_is = c.wait_due_at-due.ensures.first; small = moment_small (request.arrived + terms.wait * 1000) c.wait_due_at-due.result c.wait_due_at-due.ensures.value }))

pub returns : goal.returns
returns c =
    let all = take_all c.loop-index.index c.self.inside.requests.items (omega arith) ∙ c.self.view_is in
    record {
      first =
          subst (λ (requests : List HeldRequest). IsFirstMoment (λ now. list_any (λ held. is_wait_due c.args.deadlines.now.terms held.arrived now) requests) c.loop-index.first) all
          (c.loop-index.invariant).first_is;
      small = (c.loop-index.invariant).small;
    }
