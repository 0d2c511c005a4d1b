use Rattle.std.proofs.Common.{◌∙◌, ap, sym, subst}
use Rattle.session_attrs.specs.Admission.{admitted_of}
use Rattle.script_text.specs.Manager.{admitted_to, comes_to, number_of, posted_as, posted_by, request_in}
use Rattle.script_text.specs.Stands.{IsChange}
use Rattle.script_text.proofs.LiveLemmas.{IfOk-from}
use Rattle.script_text.proofs.manager.Manager.post.Goals as goal

pub returns-in-Later : goal.returns-in-Later
returns-in-Later c = IfOk-from c.post_later.result _ _ (λ changed it m is.
    subst (λ o. IsChange changed (posted_as m c.args.conn c.args.body o)) (sym c.in-Some.is ∙ c.in_ok-request.ensures ∙ ap request_in c.as_slice.ensures)
    (subst (λ k. IsChange changed (posted_by m c.args.conn c.args.body c.in-Some.request k)) (sym c.in-Later.is)
    (subst (λ n. IsChange changed (comes_to m c.args.conn c.args.body c.in-Some.request n)) (c.number_of-number.ensures ∙ ap number_of c.as_slice-in-Later.ensures)
    (subst (λ b. IsChange changed (comes_to m c.args.conn b c.in-Some.request c.number_of-number.result)) c.in_ok-body.ensures
    (it m is))))) c.post_later.ensures

pub returns-in-Creation : goal.returns-in-Creation
returns-in-Creation c = IfOk-from c.create.result _ _ (λ changed it m is.
    subst (λ o. IsChange changed (posted_as m c.args.conn c.args.body o)) (sym c.in-Some.is ∙ c.in_ok-request.ensures ∙ ap request_in c.as_slice.ensures)
    (subst (λ k. IsChange changed (posted_by m c.args.conn c.args.body c.in-Some.request k)) (sym c.in-Creation.is)
    (subst (λ b. IsChange changed (admitted_to m c.args.conn b c.in-Some.request c.in-Creation.creation (admitted_of c.in-Some.request.to m.hosts))) c.in_ok-body.ensures
    (it m is)))) c.create.ensures
