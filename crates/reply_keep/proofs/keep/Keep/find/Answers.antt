use Rattle.std.proofs.Common.{◌≡◌, ◌-◌, ◌<◌, ◌≤◌, None, get_or, unwrap_or, sym, ◌∙◌, ap, arith}
use Rattle.reply_keep.specs.PlainKeep.{last_id}
use Rattle.reply_keep.specs.StandsFor.{StandsFor}
use Rattle.reply_keep.proofs.Places.{none_kept, none_put, kept_place}
use Rattle.reply_keep.proofs.keep.Keep.find.Goals as goal

pub returns-in_err-last : goal.returns-in_err-last
unfolding StandsFor
returns-in_err-last c = λ plain stands.
    let none : last_id plain.put ≡ 0 = sym stands.last_is ∙ ap (λ o. unwrap_or o 0) c.in_err-last.was in
    rw c.from_residual.ensures (sym (none_put c.args.rid stands none))

pub returns-in_err-below : goal.returns-in_err-below
unfolding StandsFor
returns-in_err-below c = λ plain stands.
    let last : last_id plain.put ≡ c.in_ok-last.last = sym stands.last_is ∙ ap (λ o. unwrap_or o 0) c.in_ok-last.was in
    let later : last_id plain.put < c.args.rid = omega (arith, last, c.in_err-below.ensures) in
    rw c.from_residual-in_err-below.ensures (sym (none_kept c.args.rid stands later))

pub returns : goal.returns
unfolding StandsFor
returns c = λ plain stands.
    let last : last_id plain.put ≡ c.in_ok-last.last = sym stands.last_is ∙ ap (λ o. unwrap_or o 0) c.in_ok-last.was in
    let within : c.args.rid ≤ last_id plain.put = omega (arith, last, c.in_ok-below.ensures) in
    let below : c.in_ok-below.below ≡ last_id plain.put - c.args.rid = omega (arith, last, c.in_ok-below.ensures) in
    c.answer_at.ensures ∙ ap (λ k. get_or c.args.self.now.answers.items k None) below ∙ kept_place c.args.rid stands within
