use Rattle.std.proofs.Common.{◌≡◌, ◌∙◌, ℕ, List, ap, drop, refl, slice_range, subst, sym}
use Rattle.std.specs.Io.KnownBytes.{Appends, prepend_known}
use Rattle.bosh_http.specs.Texts.{response_text}
use Rattle.polled_http.specs.Giving.{GivesFrom}
use Rattle.serve_loop.specs.declared.owed.Owed.{Owed}
use Rattle.serve_loop.specs.Connections.{closes, message, status_owed, text_owed}
use Rattle.serve_loop.proofs.ConnectionLemmas.{keeps_prepended}
use Rattle.serve_loop.proofs.SteppingLemmas.{message_is, steps_failing, steps_given, steps_giving, steps_not_yet}
use Rattle.serve_loop.proofs.polled_connection.give.Goals as goal

pub returns-in-All-clause-moves : goal.returns-in-All-clause-moves
returns-in-All-clause-moves g c site purse trail kept =
    let port = g.K.Polled in
    let old = c.args.link.now in
    let new = c.give.new.link in
    let what = c.args.owed in
    let same = message_is what c.status.result c.text.result.now c.closes.result c.status.ensures c.text.ensures c.closes.ensures in
    steps_given site (prepend_known kept (port.left old)) (prepend_known kept (port.left new)) (port.given old) (port.given new) trail purse (port.faults old) (port.faults new) what c.args.place
    c.at.result.standing (keeps_prepended kept (port.left old) (port.left new) c.give.ensures.left)
    (subst (λ text. Appends (port.given old) (port.given new) (drop c.args.place text)) same c.in-All.ensures.given) (c.in-All.ensures.quiet (λ no. let is = c.in-All.is in cc))
    (c.at.ensures.stage ∙ c.stage_behind.ensures) c.at.ensures.place

pub returns-in-Failed-clause-moves : goal.returns-in-Failed-clause-moves
returns-in-Failed-clause-moves g c site purse trail kept =
    let port = g.K.Polled in
    let old = c.args.link.now in
    let new = c.give.new.link in
    steps_failing site (prepend_known kept (port.left old)) (prepend_known kept (port.left new)) (port.given old) (port.given new) trail purse (port.faults old) (port.faults new) c.args.owed c.args.place
    c.at-in-Failed.result.standing (keeps_prepended kept (port.left old) (port.left new) c.give.ensures.left) c.in-Failed.ensures.given (c.in-Failed.ensures.failed refl)
    c.at-in-Failed.ensures.stage

pub returns-in-Upto-clause-moves : goal.returns-in-Upto-clause-moves
returns-in-Upto-clause-moves g c site purse trail kept =
    let port = g.K.Polled in
    let old = c.args.link.now in
    let new = c.give.new.link in
    let what = c.args.owed in
    let next = c.in-Upto.next in
    let same = message_is what c.status.result c.text.result.now c.closes.result c.status.ensures c.text.ensures c.closes.ensures in
    steps_giving site (prepend_known kept (port.left old)) (prepend_known kept (port.left new)) (port.given old) (port.given new) trail purse (port.faults old) (port.faults new) what c.args.place next
    (keeps_prepended kept (port.left old) (port.left new) c.give.ensures.left) c.in-Upto.ensures.given.0
    (subst (λ text. Appends (port.given old) (port.given new) (slice_range text c.args.place next)) same c.in-Upto.ensures.given.2) (c.in-Upto.ensures.quiet (λ no. let is = c.in-Upto.is in cc))

pub returns-in-NotYet-clause-moves : goal.returns-in-NotYet-clause-moves
returns-in-NotYet-clause-moves g c site purse trail kept =
    let port = g.K.Polled in
    let old = c.args.link.now in
    let new = c.give.new.link in
    steps_not_yet site (prepend_known kept (port.left old)) (prepend_known kept (port.left new)) (port.given old) (port.given new) trail purse (port.faults old) (port.faults new) c.args.owed c.args.place
    (keeps_prepended kept (port.left old) (port.left new) c.give.ensures.left) c.in-NotYet.ensures.given (c.in-NotYet.ensures.quiet (λ no. let is = c.in-NotYet.is in cc))
