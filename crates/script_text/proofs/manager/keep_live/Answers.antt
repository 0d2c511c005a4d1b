use Rattle.std.proofs.Common.{◌∙◌, sym}
use Rattle.script_text.proofs.ManagerLemmas.{kept_last, kept_over, not_kept, not_over}
use Rattle.script_text.proofs.manager.keep_live.Goals as goal

pub returns-then-is_over-clause-live : goal.returns-then-is_over-clause-live
returns-then-is_over-clause-live c = λ s is through are. not_kept _ s through (sym (c.is_over.ensures s is) ∙ c.if-is_over.true) are

pub returns-then-is_over-clause-over : goal.returns-then-is_over-clause-over
returns-then-is_over-clause-over c = λ s is ended are. kept_over _ _ c.args.live s ended is (sym (c.is_over.ensures s is) ∙ c.if-is_over.true) c.in_ok-push.ensures.items are

pub returns-clause-live : goal.returns-clause-live
returns-clause-live c = λ s is through are. kept_last _ _ c.args.live s through is (sym (c.is_over.ensures s is) ∙ c.if-is_over.false) c.in_ok-push-2.ensures.items are

pub returns-clause-over : goal.returns-clause-over
returns-clause-over c = λ s is ended are. not_over _ s ended (sym (c.is_over.ensures s is) ∙ c.if-is_over.false) are
