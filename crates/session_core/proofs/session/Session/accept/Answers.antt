use Rattle.std.proofs.Common.{◌∙◌, ◌==◌, List, ℕ, length, ap, sym, subst}
use Rattle.std.specs.Result.{OnOk}
use Rattle.session_core.specs.Machine.{as_processed, with_copy}
use Rattle.session_core.specs.StandsFor.{StandsFor}
use Rattle.session_core.specs.State.{PlainSession}
use Rattle.session_core.proofs.ProcessLemmas.{ends_by, goes_on, kept_on, next_below, terminates}
use Rattle.session_core.proofs.TakenUp.{next_stands}
use Rattle.session_core.proofs.session.Session.accept.Goals as goal

pub returns-then-not-copy : goal.returns-then-not-copy
unfolding StandsFor
returns-then-not-copy c = λ plain stands next unbroken.
    subst (λ (p : PlainSession). StandsFor c.take_up.new.self p) (sym (kept_on plain c.args.copy.now c.if-not-copy.true)) (c.in_ok-take_up.ensures plain stands next unbroken)

pub returns-then-not-is_empty : goal.returns-then-not-is_empty
unfolding StandsFor
returns-then-not-is_empty c = λ plain stands next unbroken.
    let up = c.in_ok-take_up.ensures plain stands next unbroken in
    let ends = ends_by c.args.copy.now c.is_empty.result stands up c.if-not-copy.false (c.is_empty.ensures ∙ ap (λ (xs : List ℕ). length xs == 0) c.running.ensures) in
    subst (λ (p : PlainSession). StandsFor c.take_up.new.self p) (sym (goes_on (with_copy plain c.args.copy.now) (as_processed plain c.args.copy.now) (ends ∙ c.if-not-is_empty.true))) up

pub returns : goal.returns
unfolding StandsFor
returns c = λ plain stands next unbroken.
    let up = c.in_ok-take_up.ensures plain stands next unbroken in
    let ends = ends_by c.args.copy.now c.is_empty.result stands up c.if-not-copy.false (c.is_empty.ensures ∙ ap (λ (xs : List ℕ). length xs == 0) c.running.ensures) in
    subst (λ (p : PlainSession). OnOk c.end.result (StandsFor c.end.new.self p)) (sym (terminates (with_copy plain c.args.copy.now) (as_processed plain c.args.copy.now) (ends ∙ c.if-not-is_empty.false)))
    (c.end.ensures (with_copy plain c.args.copy.now) up (next_stands plain c.args.copy.now next).0 (next_below c.args.copy.now stands next))
