use Rattle.std.proofs.Common.{◌∙◌, ◌+◌, ap}
use Rattle.session_core.specs.StandsFor.{StandsFor}
use Rattle.session_core.specs.Tickets.{Book, given}
use Rattle.session_core.proofs.ArrivedLemmas.{reopened_holds, reopened_number}
use Rattle.session_core.proofs.session.Session.reopen.Goals as goal

pub returns : goal.returns
unfolding StandsFor
returns c = λ plain stands live later.
    record {
      replies = reopened_number c.args.rid _ stands (c.in_ok-give.ensures.number ∙ ap (λ (b : Book). b.handed_out + 1) c.replace.ensures);
      after = reopened_holds c.args.rid c.give.new.self stands live later (c.in_ok-give.ensures.after ∙ ap (λ (b : Book). given b c.args.rid) c.replace.ensures);
    }
