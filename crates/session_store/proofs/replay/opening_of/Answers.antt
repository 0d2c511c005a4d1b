use Rattle.std.proofs.Common.{◌∙◌, ℕ, List, None, Some, sym, ap, subst}
use Rattle.session_attrs.specs.Body as bodies
use Rattle.session_journal.specs.declared.entry.Entered.{Entered}
use Rattle.session_journal.specs.Entries.{opening_by}
use Rattle.session_store.specs.Replay.{IsOpeningOf, may_stand}
use Rattle.session_store.proofs.ReplayLemmas.{opens, same_request, unfit, waits_wrong}
use Rattle.session_store.proofs.replay.opening_of.Goals as goal

pub returns-then-not-branch : goal.returns-then-not-branch
returns-then-not-branch c =
    subst (λ (e : Entered). IsOpeningOf e None) (sym c.in-Open.is)
    (unfit c.in-Open.sid c.in-Open.host c.in-Open.greeting c.in-Open.body c.in-Open.now c.in-Open.limit c.in-Open.gap_waits c.in-Some.request
    (sym (sym c.in-Some.is ∙ c.in_ok-request-in-Open.ensures.answer ∙ ap bodies.request_in c.as_slice.ensures ∙ same_request c.in-Open.body))
    c.in-Some-terms_of.terms (sym c.terms_of.ensures ∙ c.in-Some-terms_of.is)
    (sym (sym c.if-not-branch.true ∙ c.in_ok-may_stand-in-Open.ensures
    ∙ ap (λ (s : List ℕ). may_stand s c.as_slice-in-Open-2.result.now c.as_slice-in-Open-3.result.now) c.as_slice-in-Open.ensures
    ∙ ap (λ (h : List ℕ). may_stand c.in-Open.sid h c.as_slice-in-Open-3.result.now) c.as_slice-in-Open-2.ensures
    ∙ ap (λ (t : List (List ℕ)). may_stand c.in-Open.sid c.in-Open.host t) c.as_slice-in-Open-3.ensures)))

pub returns-then-not-may_wait : goal.returns-then-not-may_wait
returns-then-not-may_wait c =
    subst (λ (e : Entered). IsOpeningOf e None) (sym c.in-Open.is)
    (waits_wrong c.in-Open.sid c.in-Open.host c.in-Open.greeting c.in-Open.body c.in-Open.now c.in-Open.limit c.in-Open.gap_waits c.in-Some.request
    (sym (sym c.in-Some.is ∙ c.in_ok-request-in-Open.ensures.answer ∙ ap bodies.request_in c.as_slice.ensures ∙ same_request c.in-Open.body))
    c.in-Some-terms_of.terms (sym c.terms_of.ensures ∙ c.in-Some-terms_of.is)
    (sym c.may_wait.ensures ∙ c.if-not-may_wait.true))

pub returns-in-Open : goal.returns-in-Open
returns-in-Open c =
    subst
    (λ (e : Entered). IsOpeningOf e (Some (opening_by c.in-Open.sid c.in-Open.host c.in-Open.greeting c.in-Open.body c.in-Open.now c.in-Open.limit c.in-Open.gap_waits c.in-Some.request c.in-Some-terms_of.terms)))
    (sym c.in-Open.is)
    (opens c.in-Open.sid c.in-Open.host c.in-Open.greeting c.in-Open.body c.in-Open.now c.in-Open.limit c.in-Open.gap_waits c.in-Some.request
    (sym (sym c.in-Some.is ∙ c.in_ok-request-in-Open.ensures.answer ∙ ap bodies.request_in c.as_slice.ensures ∙ same_request c.in-Open.body))
    c.in-Some-terms_of.terms (sym c.terms_of.ensures ∙ c.in-Some-terms_of.is)
    (sym c.may_wait.ensures ∙ c.if-not-may_wait.false)
    (sym (sym c.if-not-branch.false ∙ c.in_ok-may_stand-in-Open.ensures
    ∙ ap (λ (s : List ℕ). may_stand s c.as_slice-in-Open-2.result.now c.as_slice-in-Open-3.result.now) c.as_slice-in-Open.ensures
    ∙ ap (λ (h : List ℕ). may_stand c.in-Open.sid h c.as_slice-in-Open-3.result.now) c.as_slice-in-Open-2.ensures
    ∙ ap (λ (t : List (List ℕ)). may_stand c.in-Open.sid c.in-Open.host t) c.as_slice-in-Open-3.ensures)))
