use Rattle.std.proofs.Common.{◌≡◌, Some, false, length, refl, sym, subst, ap, ◌∙◌, arith}
use Rattle.std.specs.Prelude.{slice_get, true}
use Rattle.std.proofs.lemmas.Option.{slice_get_read}
use Rattle.trace_audit.specs.declared.bodies.Posted.{Posted}
use Rattle.trace_audit.specs.Run.{has_come}
use Rattle.trace_audit.proofs.IdLemmas.{marked_as}
use Rattle.trace_audit.proofs.PlaceLemmas.{finds, none_closed, none_left, none_shut, skips}
use Rattle.trace_audit.proofs.searches.next_item.Goals as goal

pub returns-then-not-is_marked-clause-none : goal.returns-then-not-is_marked-clause-none
returns-then-not-is_marked-clause-none c = λ ids count marks at. none_shut (has_come ids) (λ posted. posted.terminate) (λ (posted : Posted). posted.items) c.args.sent.now c.loop-index.index c.loop-index.offset count (c.loop-index.invariant ids count marks at)
    c.index-sent-index.result (slice_get_read c.args.sent.now (length c.args.sent.now) c.loop-index.index c.index-sent-index.result refl (omega (arith, c.loop-index-test.true)) c.index-sent-index.is)
    (marked_as (λ (posted : Posted). posted.rid) ids c.args.sent.now c.args.came.now marks c.loop-index.index c.index-sent-index.result (slice_get_read c.args.sent.now (length c.args.sent.now) c.loop-index.index c.index-sent-index.result refl (omega (arith, c.loop-index-test.true)) c.index-sent-index.is) false (sym c.is_marked.ensures ∙ c.if-not-is_marked.true))

pub returns-then-offset-items-clause-some : goal.returns-then-offset-items-clause-some
returns-then-offset-items-clause-some c = λ ids count marks at. finds (has_come ids) (λ posted. posted.terminate) (λ (posted : Posted). posted.items) c.args.sent.now c.loop-index.index c.loop-index.offset count (c.loop-index.invariant ids count marks at)
    c.index-sent-index.result (slice_get_read c.args.sent.now (length c.args.sent.now) c.loop-index.index c.index-sent-index.result refl (omega (arith, c.loop-index-test.true)) c.index-sent-index.is)
    (marked_as (λ (posted : Posted). posted.rid) ids c.args.sent.now c.args.came.now marks c.loop-index.index c.index-sent-index.result (slice_get_read c.args.sent.now (length c.args.sent.now) c.loop-index.index c.index-sent-index.result refl (omega (arith, c.loop-index-test.true)) c.index-sent-index.is) true (sym c.is_marked.ensures ∙ c.if-not-is_marked.false)) c.index-items-offset.result
    (subst (λ l. slice_get l c.loop-index.offset ≡ Some c.index-items-offset.result) c.as_slice-items.ensures
    (slice_get_read c.as_slice-items.result.now (length c.as_slice-items.result.now) c.loop-index.offset c.index-items-offset.result refl (omega (arith, c.if-offset-items.true)) c.index-items-offset.is))
    (omega (arith, c.if-offset-items.true, ap length c.as_slice-items.ensures))

pub returns-then-posted-clause-none : goal.returns-then-posted-clause-none
returns-then-posted-clause-none c = λ ids count marks at. none_closed (has_come ids) (λ posted. posted.terminate) (λ (posted : Posted). posted.items) c.args.sent.now c.loop-index.index c.loop-index.offset count (c.loop-index.invariant ids count marks at)
    c.index-sent-index.result (slice_get_read c.args.sent.now (length c.args.sent.now) c.loop-index.index c.index-sent-index.result refl (omega (arith, c.loop-index-test.true)) c.index-sent-index.is)
    (marked_as (λ (posted : Posted). posted.rid) ids c.args.sent.now c.args.came.now marks c.loop-index.index c.index-sent-index.result (slice_get_read c.args.sent.now (length c.args.sent.now) c.loop-index.index c.index-sent-index.result refl (omega (arith, c.loop-index-test.true)) c.index-sent-index.is) true (sym c.is_marked.ensures ∙ c.if-not-is_marked.false)) (omega (arith, c.if-offset-items.false, ap length c.as_slice-items.ensures)) c.if-posted.true

pub loop-index-preserved : goal.loop-index-preserved
loop-index-preserved c = λ ids count marks at. skips (has_come ids) (λ posted. posted.terminate) (λ (posted : Posted). posted.items) c.args.sent.now c.loop-index.index c.loop-index.offset count (c.loop-index.invariant ids count marks at)
    c.index-sent-index.result (slice_get_read c.args.sent.now (length c.args.sent.now) c.loop-index.index c.index-sent-index.result refl (omega (arith, c.loop-index-test.true)) c.index-sent-index.is)
    (marked_as (λ (posted : Posted). posted.rid) ids c.args.sent.now c.args.came.now marks c.loop-index.index c.index-sent-index.result (slice_get_read c.args.sent.now (length c.args.sent.now) c.loop-index.index c.index-sent-index.result refl (omega (arith, c.loop-index-test.true)) c.index-sent-index.is) true (sym c.is_marked.ensures ∙ c.if-not-is_marked.false)) (omega (arith, c.if-offset-items.false, ap length c.as_slice-items.ensures)) c.if-posted.false

pub returns-clause-none : goal.returns-clause-none
returns-clause-none c = λ ids count marks at. none_left (has_come ids) (λ posted. posted.terminate) (λ (posted : Posted). posted.items) c.args.sent.now c.loop-index.index c.loop-index.offset count (c.loop-index.invariant ids count marks at)
    (omega (arith, c.loop-index-test.false))
