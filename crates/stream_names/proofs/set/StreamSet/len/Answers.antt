use Rattle.std.proofs.Common.{◌∙◌, ◌≡◌, ◌+◌, ap, sym, List, ℕ, suc, Bool, arith, length}
use Rattle.stream_names.specs.Streams.{is_among}
use Rattle.stream_names.proofs.Numbers.{canonical_of, few_of, from, from_all, from_end, from_skipped, from_taken, mark_read}
use Rattle.stream_names.proofs.set.StreamSet.len.Goals as goal
use Rattle.stream_names.proofs.set.StreamSet.len.Goals.{then-self-number, else-self-number}

pub loop-number-init : goal.loop-number-init
loop-number-init c =
    let all = ap length (from_all (is_among c.args.self.now) ∙ canonical_of c.self.inside.marks c.args.self.now c.self.view_is) in
    record { few = omega arith; all = omega (arith, all) }

pub loop-number-preserved : goal.loop-number-preserved
loop-number-preserved c =
    let f : ℕ → Bool = is_among c.args.self.now in
    let n : ℕ = c.loop-number.number in
    let here = mark_read c.self.inside.marks c.args.self.now n c.self.view_is c.loop-number-test.true in
    elim c.if-self-number.branch [
      | then-self-number w ↦
          let one : length (from f n) ≡ suc (length (from f (n + 1))) = ap length (from_taken f n c.loop-number-test.true (sym here ∙ w.if-self-number.true)) in
          record { few = omega (arith, w.count-is, c.loop-number.invariant.few); all = omega (arith, w.count-is, c.loop-number.invariant.all, one) }
      | else-self-number w ↦
          let one : length (from f n) ≡ length (from f (n + 1)) = ap length (from_skipped f n c.loop-number-test.true (sym here ∙ w.if-self-number.false)) in
          record { few = omega (arith, w.count-is, c.loop-number.invariant.few); all = omega (arith, w.count-is, c.loop-number.invariant.all, one) }
    ]

pub returns : goal.returns
returns c =
    let end : length (from (is_among c.args.self.now) c.loop-number.number) ≡ 0 = ap length (from_end (is_among c.args.self.now) c.loop-number.number c.loop-number-test.false) in
    let whole : c.loop-number.count ≡ length c.args.self.now = omega (arith, end, c.loop-number.invariant.all) in
    let few = few_of c.self.inside.marks c.args.self.now c.self.view_is in
    record { value = whole; few = omega (arith, whole, few) }
