use Rattle.std.proofs.Common.{drop, sym, subst}
use Rattle.bosh_http.specs.Texts.{response_text}
use Rattle.polled_http.specs.Windows.{Shows}
use Rattle.polled_http.proofs.giving.GiveRoom.give.Goals as goal

pub returns-clause-given : goal.returns-clause-given
returns-clause-given g c =
    let text = response_text c.args.status c.args.body.now c.args.closing in
    c.give_shown.ensures.given text
    (subst (λ shown. Shows (drop c.args.place text) shown c.show_response-is_all.result) (sym c.as_slice.ensures.value) c.show_response-is_all.ensures.shows)
