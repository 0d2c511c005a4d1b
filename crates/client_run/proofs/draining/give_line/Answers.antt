use Rattle.std.proofs.Common.{[], ◌∷◌}
use Rattle.client_run.proofs.HandingLemmas.{front_longer, gives_both}
use Rattle.client_run.proofs.draining.give_line.Goals as goal

pub returns-in-Ok-clause-given : goal.returns-in-Ok-clause-given
returns-in-Ok-clause-given g c =
    gives_both c.give_all-in-Ok.result (g.K.Sink.given c.args.sink.now) _ (g.K.Sink.given c.give_all-in-Ok.new.sink) c.args.stanza.now (10 ∷ []) c.in-Ok.ensures.given c.give_all-in-Ok.ensures.given

pub returns-in-Err-clause-given : goal.returns-in-Err-clause-given
returns-in-Err-clause-given g c = front_longer _ _ c.args.stanza.now (10 ∷ []) c.in-Err.ensures.given
