use Rattle.std.proofs.Common.{◌≡◌, ◌∙◌, ◌+◌, ◌-◌, ℕ, take, drop, sym, ap, arith}
use Rattle.std.specs.List.{list_all}
use Rattle.std.proofs.Math.Seq.{take-add}
use Rattle.body_cutter.specs.Scanning.{is_plain_byte}
use Rattle.body_cutter.proofs.RunsRead.{all_append}
use Rattle.body_cutter.proofs.run.plain_blocks.Goals as goal

pub loop-at-preserved : goal.loop-at-preserved
loop-at-preserved c =
    let bytes = c.args.bytes.now in
    let at = c.loop-at.at in
    let good = is_plain_byte c.args.stops.0 c.args.stops.1 c.args.stops.2 in
    let size : (at + 32) - at ≡ 32 = omega arith in
    let block : list_all good (take 32 (drop at bytes)) ≡ _ = ap (λ (n : ℕ). list_all good (take n (drop at bytes))) (sym size) ∙ sym c.is_plain_block.ensures ∙ c.if-not-is_plain_block.false in
    record {
      within = omega (arith, c.loop-at-test.true, c.loop-at.invariant.within);
      each = ap (list_all good) (take-add at 32 bytes) ∙ all_append good (take at bytes) (take 32 (drop at bytes)) c.loop-at.invariant.each block;
    }
