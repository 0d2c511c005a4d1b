use Rattle.std.proofs.Common.{subst, Bool}
use Rattle.std.specs.Prelude.{IsTrue}
use Rattle.std.specs.Option.{SomeIff}
use Rattle.pause_rules.specs.Overactive.{apart}
use Rattle.session_core.proofs.RuleLemmas.{overactive-held}
use Rattle.session_core.proofs.rules.too_close.Goals as goal

pub returns : goal.returns
returns c =
    subst (λ (b : Bool). SomeIff c.overactive.result (IsTrue b) (apart c.args.this c.args.prior))
    (overactive-held c.args.deadlines.now.terms c.args.held c.args.this c.args.prior (rw c.terms.ensures at c.in_range.ensures))
    (rw c.capped.ensures at c.overactive.ensures)
