use Rattle.std.proofs.Common.{◌≡◌, ◌∙◌, Bool, true, false, not, if◌then◌else◌, refl, sym, subst}
use Rattle.session_core.specs.declared.replies.Ticked.{Ticked}
use Rattle.session_core.specs.declared.replies.Ticked.TheVariants.{Changed, Quiet}
use Rattle.session_core.specs.Machine.{tick}
use Rattle.session_core.specs.State.{PlainSession}
use Rattle.session_core.specs.Steps.{Does}
use Rattle.session_core.specs.Time.{is_due}
use Rattle.session_core.proofs.ArrivedLemmas.{due_live, tick_due}
use Rattle.session_core.proofs.session.Session.tick.Goals as goal

quiet_if : (due : Bool) (quiet changed : PlainSession × Ticked) → due ≡ false → (if not due then quiet else changed) ≡ quiet
quiet_if true quiet changed is = absurd (cc)
quiet_if false quiet changed is = refl

pub returns-then-not-is_due-clause-step : goal.returns-then-not-is_due-clause-step
returns-then-not-is_due-clause-step c = λ plain stands.
    let none : is_due plain c.args.now ≡ false = sym (c.is_due.ensures plain stands) ∙ c.if-not-is_due.true in
    subst (λ (step : PlainSession × Ticked). Does c.args.self.now Quiet step) (sym (quiet_if (is_due plain c.args.now) (plain, Quiet) _ none)) (record { replies = refl; after = stands })

pub returns-clause-step : goal.returns-clause-step
returns-clause-step c = λ plain stands.
    let due : is_due plain c.args.now ≡ true = sym (c.is_due.ensures plain stands) ∙ c.if-not-is_due.false in
    let draft = c.in_ok-draft.ensures plain stands in
    subst (λ (step : PlainSession × Ticked). Does c.pass_time.new.self Changed step) (sym (tick_due plain c.args.now due))
    (record { replies = refl; after = c.in_ok-pass_time.ensures plain draft (due_live plain c.args.now due) })
