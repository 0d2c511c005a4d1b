use Rattle.std.proofs.Common.{refl}
use Rattle.trace_audit.proofs.HeardLemmas.{breaks, got_none, got_other, got_well, heard, next_outward, none_outward, other_bytes, same_bytes}
use Rattle.trace_audit.proofs.heard.Heard.got.Goals as goal

pub returns-in_default : goal.returns-in_default
returns-in_default c = λ t h. breaks _ _ _ (got_none _ _ _ _ _ _ _ _ t h c.args.stanza.now
    (none_outward _ _ _ _ _ _ _ _ t h c.deref.result.now c.deref-2.result.now c.deref.ensures.value c.deref-2.ensures.value c.in_default.ensures.none))

pub returns-then-ne : goal.returns-then-ne
returns-then-ne c = λ t h.
    let found = next_outward _ _ _ _ _ _ _ _ t h c.deref.result.now c.deref-2.result.now c.deref.ensures.value c.deref-2.ensures.value c.in-Some.next.now c.in-Some.place c.in-Some.ensures.some in
    breaks _ _ _ (got_other _ _ _ _ _ _ _ _ t h c.args.stanza.now c.in-Some.next.now found.0 (other_bytes _ _ _ _ _ c.ne.ensures c.as_slice.ensures c.as_slice-2.ensures c.if-ne.true))

pub returns : goal.returns
returns c = λ t h.
    let found = next_outward _ _ _ _ _ _ _ _ t h c.deref.result.now c.deref-2.result.now c.deref.ensures.value c.deref-2.ensures.value c.in-Some.next.now c.in-Some.place c.in-Some.ensures.some in
    heard _ _ (got_well _ _ _ _ _ _ _ _ t h c.args.stanza.now c.in-Some.next.now c.in-Some.place found.0 (same_bytes _ _ _ _ _ c.ne.ensures c.as_slice.ensures c.as_slice-2.ensures c.if-ne.false) found.1) refl refl refl refl refl
