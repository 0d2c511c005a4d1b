use Rattle.std.proofs.Common.{◌∙◌, ap, drop}
use Rattle.std.proofs.lemmas.List.{drop-drop}
use Rattle.bosh_client.proofs.queue.Queue.drop_front.Goals as goal

pub loop-item-preserved : goal.loop-item-preserved
loop-item-preserved c = c.drop_first.ensures ∙ ap (λ items. drop 1 items) c.loop-item.invariant ∙ drop-drop 1 c.loop-item._item c.args.self.now
