use Rattle.bosh_client.proofs.Fronts.{stanza_load}
use Rattle.bosh_client.proofs.queue.Queue.stanza_load.Goals as goal

pub returns : goal.returns
returns c = λ bytes first.
    rw (c.of.ensures, c.stream_for.ensures)
    (stanza_load c.args.self.now c.args.on bytes c.fitting-count.result first c.fitting-count.ensures.within c.fitting-count.ensures.longest)
