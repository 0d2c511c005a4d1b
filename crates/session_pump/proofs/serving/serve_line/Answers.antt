use Rattle.std.proofs.Common.{Err, Ok}
use Rattle.session_pump.proofs.ServingLemmas.{serves_early, serves_on, serves_untimed, serves_untried, tells_on}
use Rattle.session_pump.proofs.serving.serve_line.Goals as goal

pub returns-in_err-open_streams-clause-serves : goal.returns-in_err-open_streams-clause-serves
returns-in_err-open_streams-clause-serves g c = serves_early _ _ _ _ _ _ _ _ c.from_residual.ensures.0 c.in_err-open_streams.ensures.moves

pub returns-in_err-tell_streams-clause-serves : goal.returns-in_err-tell_streams-clause-serves
returns-in_err-tell_streams-clause-serves g c =
    serves_early _ _ _ _ _ _ _ _ c.from_residual-in_err-tell_streams.ensures.0
    (tells_on _ _ _ _ _ _ _ _ _ _ (Err c.in_err-tell_streams.field-0.0) c.in_ok-open_streams.ensures.moves c.in_err-tell_streams.ensures.tells)

pub returns-in_err-tick-clause-serves : goal.returns-in_err-tick-clause-serves
returns-in_err-tick-clause-serves g c =
    serves_untimed _ _ _ _ _ _ _ _ c.in_err-tick.field-0.0 _ c.from_residual-in_err-tick.ensures.0
    (tells_on _ _ _ _ _ _ _ _ _ _ (Ok tt) c.in_ok-open_streams.ensures.moves c.in_ok-tell_streams.ensures.tells)
    c.in_err-tick.ensures.ticks

pub returns-in_err-give_streams-clause-serves : goal.returns-in_err-give_streams-clause-serves
returns-in_err-give_streams-clause-serves g c =
    serves_untried _ _ _ _ _ _ _ _ _ _ _ c.in_err-give_streams.field-0.0 _ c.from_residual-in_err-give_streams.ensures.0
    (tells_on _ _ _ _ _ _ _ _ _ _ (Ok tt) c.in_ok-open_streams.ensures.moves c.in_ok-tell_streams.ensures.tells)
    c.in_ok-tick.ensures.ticks c.in_err-give_streams.ensures.tries

pub returns-clause-serves : goal.returns-clause-serves
returns-clause-serves g c =
    serves_on _ _ _ _ _ _ _ _ _ _ _ _ _ _ _ (c.in_ok-tell_streams.ensures.opened c.in_ok-open_streams.ensures.opened)
    (tells_on _ _ _ _ _ _ _ _ _ _ (Ok tt) c.in_ok-open_streams.ensures.moves c.in_ok-tell_streams.ensures.tells)
    c.in_ok-tick.ensures.ticks c.in_ok-give_streams.ensures.tries c.pass_all.ensures.passes

pub pass_all-requires-clause-opened : goal.pass_all-requires-clause-opened
pass_all-requires-clause-opened g c = c.in_ok-give_streams.ensures.opened (c.in_ok-tell_streams.ensures.opened c.in_ok-open_streams.ensures.opened)
