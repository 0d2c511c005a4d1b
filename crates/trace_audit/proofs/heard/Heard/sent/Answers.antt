use Rattle.std.proofs.Common.{refl, sym, ap, ◌∙◌}
use Rattle.trace_audit.specs.Rules.{follows, is_begun_well, last_of}
use Rattle.trace_audit.proofs.HeardLemmas.{breaks, heard, sent_apart, sent_misplaced, sent_unread, sent_well}
use Rattle.trace_audit.proofs.heard.Heard.sent.Goals as goal

pub returns-in_default : goal.returns-in_default
returns-in_default c = λ t h. breaks _ _ _ (sent_unread _ _ _ _ _ _ _ _ t h c.args.body (sym c.in_ok-posted.ensures ∙ c.in_default.is))

pub returns-then-not-is_begun_well : goal.returns-then-not-is_begun_well
returns-then-not-is_begun_well c = λ t h. breaks _ _ _ (sent_misplaced _ _ _ _ _ _ _ _ t h c.args.body c.in-Some.posted (sym c.in_ok-posted.ensures ∙ c.in-Some.is)
    (ap (λ l. is_begun_well l c.in-Some.posted.creates) (sym c.deref.ensures.value) ∙ sym c.is_begun_well.ensures ∙ c.if-not-is_begun_well.true))

pub returns-then-not-follows : goal.returns-then-not-follows
returns-then-not-follows c = λ t h. breaks _ _ _ (sent_apart _ _ _ _ _ _ _ _ t h c.args.body c.in-Some.posted (sym c.in_ok-posted.ensures ∙ c.in-Some.is)
    (ap (λ l. is_begun_well l c.in-Some.posted.creates) (sym c.deref.ensures.value) ∙ sym c.is_begun_well.ensures ∙ c.if-not-is_begun_well.false)
    (ap (λ l. follows (last_of l) c.in-Some.posted.rid) (sym c.deref-2.ensures.value) ∙ sym c.follows.ensures ∙ c.if-not-follows.true))

pub returns : goal.returns
returns c = λ t h. heard _ _ (sent_well _ _ _ _ _ _ _ _ t h c.args.body c.in-Some.posted (sym c.in_ok-posted.ensures ∙ c.in-Some.is)
    (ap (λ l. is_begun_well l c.in-Some.posted.creates) (sym c.deref.ensures.value) ∙ sym c.is_begun_well.ensures ∙ c.if-not-is_begun_well.false)
    (ap (λ l. follows (last_of l) c.in-Some.posted.rid) (sym c.deref-2.ensures.value) ∙ sym c.follows.ensures ∙ c.if-not-follows.false))
    refl (sym c.in_ok-push.ensures.items) (sym c.in_ok-push-2.ensures.items) refl refl
