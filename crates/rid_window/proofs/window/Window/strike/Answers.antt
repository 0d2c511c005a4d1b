use Rattle.std.proofs.Common.{◌≡◌, ◌+◌, ◌∙◌, arith}
use Rattle.rid_window.specs.StandsFor.{StandsFor}
use Rattle.rid_window.proofs.Struck.{Holds-none_open, Holds-strike, Holds-taken_open, none_open, struck_item, taken_open}
use Rattle.rid_window.proofs.window.Window.strike.Goals as goal

pub returns-in_err-next-clause-answer : goal.returns-in_err-next-clause-answer
unfolding StandsFor
returns-in_err-next-clause-answer g c = λ plain stands. c.from_residual.ensures ∙ none_open stands c.in_err-next.was c.args.rid

pub returns-in_err-next-clause-after : goal.returns-in_err-next-clause-after
unfolding StandsFor
returns-in_err-next-clause-after g c = λ plain stands. Holds-none_open stands c.in_err-next.was c.args.rid

pub returns-in_err-ahead-clause-answer : goal.returns-in_err-ahead-clause-answer
unfolding StandsFor
returns-in_err-ahead-clause-answer g c = λ plain stands.
    c.from_residual-in_err-ahead.ensures ∙ taken_open c.in_ok-next.next c.args.rid stands c.in_ok-next.was (omega arith)

pub returns-in_err-ahead-clause-after : goal.returns-in_err-ahead-clause-after
unfolding StandsFor
returns-in_err-ahead-clause-after g c = λ plain stands. Holds-taken_open c.in_ok-next.next c.args.rid stands c.in_ok-next.was (omega arith)

pub returns-clause-answer : goal.returns-clause-answer
unfolding StandsFor
returns-clause-answer g c = λ plain stands.
    let here : c.args.rid ≡ c.in_ok-next.next + c.in_ok-ahead.ahead = omega arith in
    c.take_at.ensures.item ∙ struck_item c.in_ok-next.next c.in_ok-ahead.ahead c.args.rid stands c.in_ok-next.was here

pub returns-clause-after : goal.returns-clause-after
unfolding StandsFor
returns-clause-after g c = λ plain stands.
    let here : c.args.rid ≡ c.in_ok-next.next + c.in_ok-ahead.ahead = omega arith in
    rw c.take_at.ensures.emptied (Holds-strike c.in_ok-next.next c.in_ok-ahead.ahead c.args.rid stands c.in_ok-next.was here)
