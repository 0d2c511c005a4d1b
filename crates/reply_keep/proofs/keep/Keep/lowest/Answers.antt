use Rattle.std.proofs.Common.{◌≡◌, ◌-◌, ◌<◌, ◌≤◌, Some, unwrap_or, sym, ◌∙◌, ap, arith}
use Rattle.bosh_types.specs.Rid.{IsRid, greatest_rid}
use Rattle.reply_keep.specs.Filled.{IsLastFilled}
use Rattle.reply_keep.specs.PlainKeep.{IsLowestKept, last_id}
use Rattle.reply_keep.specs.StandsFor.{StandsFor}
use Rattle.reply_keep.proofs.Places.{lowest_none, lowest_empty, lowest_made, lowest_within}
use Rattle.reply_keep.proofs.keep.Keep.lowest.Goals as goal

pub returns-in_err-last : goal.returns-in_err-last
unfolding StandsFor
returns-in_err-last c = λ plain stands.
    rw c.from_residual.ensures (lowest_none stands (sym stands.last_is ∙ ap (λ o. unwrap_or o 0) c.in_err-last.was))

pub returns-in_err-below : goal.returns-in_err-below
unfolding StandsFor
returns-in_err-below c = λ plain stands.
    rw c.from_residual-in_err-below.ensures (lowest_empty stands c.in_err-below.ensures)

pub returns-in_err-checked_sub : goal.returns-in_err-checked_sub
unfolding StandsFor
returns-in_err-checked_sub c = λ plain stands.
    let last : last_id plain.put ≡ c.in_ok-last.last = sym stands.last_is ∙ ap (λ o. unwrap_or o 0) c.in_ok-last.was in
    let within : c.in_ok-below.below < last_id plain.put = lowest_within c.in_ok-below.below stands c.in_ok-below.ensures in
    absurd (omega (arith, c.in_err-checked_sub.ensures))

pub returns : goal.returns
unfolding StandsFor
returns c = λ plain stands.
    let last : last_id plain.put ≡ c.in_ok-last.last = sym stands.last_is ∙ ap (λ o. unwrap_or o 0) c.in_ok-last.was in
    let lowest : c.in_ok-checked_sub.field-0 ≡ last_id plain.put - c.in_ok-below.below = omega (arith, c.in_ok-checked_sub.ensures) in
    lowest_made c.in_ok-below.below c.new.result stands c.in_ok-below.ensures (omega (arith, c.value.ensures.in_range)) (rw (← lowest) c.new.ensures)
