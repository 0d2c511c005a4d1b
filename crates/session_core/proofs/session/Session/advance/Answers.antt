use Rattle.std.proofs.Common.{◌∙◌, ◌-◌, ℕ, Bool, sym, ap, subst, arith}
use Rattle.bosh_types.specs.Rid.{greatest_rid}
use Rattle.session_core.specs.Machine.{advanced_in, process}
use Rattle.session_core.specs.StandsFor.{StandsFor}
use Rattle.session_core.specs.State.{PlainSession}
use Rattle.session_core.specs.Steps.{ProcessesNext}
use Rattle.session_core.proofs.SettleLemmas.{advance_begin, advance_end, advance_more, advance_stop}
use Rattle.session_core.proofs.session.Session.advance.Goals as goal

pub loop-id-init : goal.loop-id-init
unfolding StandsFor
loop-id-init c = λ plain stands.
    (plain, stands, ap (λ (n : ℕ). advanced_in (greatest_rid - n) plain) c.value-id.ensures.value ∙ advance_begin stands)

pub loop-id-preserved : goal.loop-id-preserved
loop-id-preserved c = λ plain stands.
    let now = c.loop-id.invariant plain stands in
    let found = subst (λ (b : Bool). ProcessesNext b c.process_next.new.self now.0) c.if-not-branch.false (c.in_ok-process_next.ensures now.0 now.1) in
    (process now.0 found.0, found.2, advance_more 0 c.loop-id._id now.0 found.0 (omega arith) c.loop-id-test.true found.1 ∙ now.2)

pub returns-then-not-branch : goal.returns-then-not-branch
returns-then-not-branch c = λ plain stands.
    let now = c.loop-id.invariant plain stands in
    let none = subst (λ (b : Bool). ProcessesNext b c.process_next.new.self now.0) c.if-not-branch.true (c.in_ok-process_next.ensures now.0 now.1) in
    subst (λ (p : PlainSession). StandsFor c.process_next.new.self p) (sym (advance_stop _ now.0 none.0) ∙ now.2) none.1

pub returns : goal.returns
returns c = λ plain stands.
    let now = c.loop-id.invariant plain stands in
    subst (λ (p : PlainSession). StandsFor c.loop-id.self p) (sym (advance_end c.loop-id._id now.0 c.loop-id-test.false) ∙ now.2) now.1
