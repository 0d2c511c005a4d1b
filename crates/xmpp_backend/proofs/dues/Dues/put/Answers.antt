use Rattle.std.proofs.Common.{◌∙◌, ap, sym}
use Rattle.xmpp_backend.specs.Dues.{place_on, put_at}
use Rattle.xmpp_backend.proofs.dues.Dues.put.Goals as goal

pub returns-in-Refused-clause-owes : goal.returns-in-Refused-clause-owes
returns-in-Refused-clause-owes c =
    c.fail.ensures.owes c.args.stanza
    ∙ ap (λ place. put_at place c.args.wire c.args.stanza c.args.self.now.dues)
    (sym (ap (λ n. place_on c.args.wire n c.args.self.now.dues) (sym c.len.ensures) ∙ sym c.place.ensures ∙ c.in-Refused.is))
