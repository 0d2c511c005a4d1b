use Rattle.std.proofs.Common.{arith}
use Rattle.journal_store.proofs.FoundLemmas.{entry_found}
use Rattle.session_store.proofs.ReplayLemmas.{replays_by}
use Rattle.session_store.proofs.replay.replay.Goals as goal

pub returns : goal.returns
returns c =
    replays_by c.enter.result c.args.sessions.now.items _ c.args.content.now c.in-Ok.read
    (entry_found c.args.content.now c.in-Ok.read (λ i. omega (arith, c.type_inv.content i)) c.in-Ok.ensures) c.in-Ok.ensures c.enter.ensures
