use Rattle.std.proofs.Common.{◌∙◌, sym}
use Rattle.script_text.proofs.ManagerLemmas.{gone_at, kept_at, kept_over, not_over}
use Rattle.script_text.proofs.manager.insert_live.Goals as goal

pub returns-then-is_over-clause-live : goal.returns-then-is_over-clause-live
returns-then-is_over-clause-live c = λ s is ss are. gone_at c.args.place _ s ss (sym (c.is_over.ensures s is) ∙ c.if-is_over.true) are

pub returns-then-is_over-clause-over : goal.returns-then-is_over-clause-over
returns-then-is_over-clause-over c = λ s is ended are. kept_over _ _ c.args.live s ended is (sym (c.is_over.ensures s is) ∙ c.if-is_over.true) c.in_ok-push.ensures.items are

pub returns-clause-live : goal.returns-clause-live
returns-clause-live c = λ s is ss are. kept_at c.args.place _ _ c.args.live s ss is (sym (c.is_over.ensures s is) ∙ c.if-is_over.false) c.in_ok-insert.ensures.items are

pub returns-clause-over : goal.returns-clause-over
returns-clause-over c = λ s is ended are. not_over _ s ended (sym (c.is_over.ensures s is) ∙ c.if-is_over.false) are
