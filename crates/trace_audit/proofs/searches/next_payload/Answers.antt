use Rattle.std.proofs.Common.{◌≡◌, Some, false, length, refl, sym, subst, ap, ◌∙◌, arith}
use Rattle.std.specs.Prelude.{slice_get, true}
use Rattle.std.proofs.lemmas.Option.{slice_get_read}
use Rattle.trace_audit.specs.declared.bodies.Reply.{Reply}
use Rattle.trace_audit.specs.Run.{was_taken}
use Rattle.trace_audit.proofs.IdLemmas.{marked_as}
use Rattle.trace_audit.proofs.PlaceLemmas.{finds, none_left, none_shut, skips}
use Rattle.trace_audit.proofs.searches.next_payload.Goals as goal

pub returns-then-not-is_marked-clause-none : goal.returns-then-not-is_marked-clause-none
returns-then-not-is_marked-clause-none c = λ ids count marks at. none_shut (was_taken ids) (λ reply. false) (λ (reply : Reply). reply.payloads) c.args.counted.now c.loop-index.index c.loop-index.offset count (c.loop-index.invariant ids count marks at)
    c.index-counted-index.result (slice_get_read c.args.counted.now (length c.args.counted.now) c.loop-index.index c.index-counted-index.result refl (omega (arith, c.loop-index-test.true)) c.index-counted-index.is)
    (marked_as (λ (reply : Reply). reply.rid) ids c.args.counted.now c.args.took.now marks c.loop-index.index c.index-counted-index.result (slice_get_read c.args.counted.now (length c.args.counted.now) c.loop-index.index c.index-counted-index.result refl (omega (arith, c.loop-index-test.true)) c.index-counted-index.is) false (sym c.is_marked.ensures ∙ c.if-not-is_marked.true))

pub returns-then-offset-payloads-clause-some : goal.returns-then-offset-payloads-clause-some
returns-then-offset-payloads-clause-some c = λ ids count marks at. finds (was_taken ids) (λ reply. false) (λ (reply : Reply). reply.payloads) c.args.counted.now c.loop-index.index c.loop-index.offset count (c.loop-index.invariant ids count marks at)
    c.index-counted-index.result (slice_get_read c.args.counted.now (length c.args.counted.now) c.loop-index.index c.index-counted-index.result refl (omega (arith, c.loop-index-test.true)) c.index-counted-index.is)
    (marked_as (λ (reply : Reply). reply.rid) ids c.args.counted.now c.args.took.now marks c.loop-index.index c.index-counted-index.result (slice_get_read c.args.counted.now (length c.args.counted.now) c.loop-index.index c.index-counted-index.result refl (omega (arith, c.loop-index-test.true)) c.index-counted-index.is) true (sym c.is_marked.ensures ∙ c.if-not-is_marked.false)) c.index-payloads-offset.result
    (subst (λ l. slice_get l c.loop-index.offset ≡ Some c.index-payloads-offset.result) c.as_slice-payloads.ensures
    (slice_get_read c.as_slice-payloads.result.now (length c.as_slice-payloads.result.now) c.loop-index.offset c.index-payloads-offset.result refl (omega (arith, c.if-offset-payloads.true)) c.index-payloads-offset.is))
    (omega (arith, c.if-offset-payloads.true, ap length c.as_slice-payloads.ensures))

pub loop-index-preserved : goal.loop-index-preserved
loop-index-preserved c = λ ids count marks at. skips (was_taken ids) (λ reply. false) (λ (reply : Reply). reply.payloads) c.args.counted.now c.loop-index.index c.loop-index.offset count (c.loop-index.invariant ids count marks at)
    c.index-counted-index.result (slice_get_read c.args.counted.now (length c.args.counted.now) c.loop-index.index c.index-counted-index.result refl (omega (arith, c.loop-index-test.true)) c.index-counted-index.is)
    (marked_as (λ (reply : Reply). reply.rid) ids c.args.counted.now c.args.took.now marks c.loop-index.index c.index-counted-index.result (slice_get_read c.args.counted.now (length c.args.counted.now) c.loop-index.index c.index-counted-index.result refl (omega (arith, c.loop-index-test.true)) c.index-counted-index.is) true (sym c.is_marked.ensures ∙ c.if-not-is_marked.false)) (omega (arith, c.if-offset-payloads.false, ap length c.as_slice-payloads.ensures)) refl

pub returns-clause-none : goal.returns-clause-none
returns-clause-none c = λ ids count marks at. none_left (was_taken ids) (λ reply. false) (λ (reply : Reply). reply.payloads) c.args.counted.now c.loop-index.index c.loop-index.offset count (c.loop-index.invariant ids count marks at)
    (omega (arith, c.loop-index-test.false))
