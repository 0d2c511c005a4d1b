use Rattle.std.proofs.Common.{◌∙◌, refl, sym}
use Rattle.session_pump.proofs.PlaceLemmas.{any_further, any_here}
use Rattle.session_pump.proofs.pump.any_is_behind.Goals as goal

pub returns-then-has_more : goal.returns-then-has_more
returns-then-has_more g c =
    sym (any_here _ _ _ _ c.stand-item.result _ refl c.loop-stand-test.true c.stand-item.is (sym c.has_more.ensures ∙ c.if-has_more.true) c.loop-stand.invariant)

pub loop-stand-preserved : goal.loop-stand-preserved
loop-stand-preserved g c =
    any_further _ _ _ _ c.stand-item.result _ refl c.loop-stand-test.true c.stand-item.is (sym c.has_more.ensures ∙ c.if-has_more.false) c.loop-stand.invariant
