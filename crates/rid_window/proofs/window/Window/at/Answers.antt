use Rattle.std.proofs.Common.{◌≡◌, ◌+◌, ◌∙◌, ap, arith}
use Rattle.std.specs.Option.{option_copied}
use Rattle.rid_window.specs.StandsFor.{StandsFor}
use Rattle.rid_window.proofs.Struck.{none_open, struck_item, taken_open}
use Rattle.rid_window.proofs.window.Window.at.Goals as goal

pub returns-in_err-next : goal.returns-in_err-next
unfolding StandsFor
returns-in_err-next g c = λ plain stands. ap option_copied c.from_residual.ensures ∙ none_open stands c.in_err-next.was c.args.rid

pub returns-in_err-ahead : goal.returns-in_err-ahead
unfolding StandsFor
returns-in_err-ahead g c = λ plain stands.
    ap option_copied c.from_residual-in_err-ahead.ensures ∙ taken_open c.in_ok-next.next c.args.rid stands c.in_ok-next.was (omega arith)

pub returns : goal.returns
unfolding StandsFor
returns g c = λ plain stands.
    let here : c.args.rid ≡ c.in_ok-next.next + c.in_ok-ahead.ahead = omega arith in
    c.item_at.ensures ∙ struck_item c.in_ok-next.next c.in_ok-ahead.ahead c.args.rid stands c.in_ok-next.was here
