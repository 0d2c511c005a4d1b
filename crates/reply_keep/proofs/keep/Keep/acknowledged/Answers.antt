use Rattle.std.proofs.Common.{◌≡◌, ◌-◌, unwrap_or, sym, ◌∙◌, ap, arith}
use Rattle.reply_keep.specs.PlainKeep.{last_id}
use Rattle.reply_keep.specs.StandsFor.{StandsFor}
use Rattle.reply_keep.proofs.Places.{Holds-ack, Holds-ack_none}
use Rattle.reply_keep.proofs.keep.Keep.acknowledged.Goals as goal

pub returns-in_default : goal.returns-in_default
unfolding StandsFor
returns-in_default c = λ plain stands.
    Holds-ack_none c.args.rid stands (sym stands.last_is ∙ ap (λ o. unwrap_or o 0) c.in_default.is)

pub returns : goal.returns
unfolding StandsFor
returns c = λ plain stands.
    let last : last_id plain.put ≡ c.in-Some.last = sym stands.last_is ∙ ap (λ o. unwrap_or o 0) c.in-Some.is in
    let above : c.saturating_sub-above.result ≡ last_id plain.put - c.args.rid = omega (arith, last) in
    Holds-ack c.args.rid c.clear_from.new.places.items stands c.clear_from.ensures.length
    (λ k low. c.clear_from.ensures.emptied k (omega arith))
    (λ k high. c.clear_from.ensures.rest k (omega arith))
