use Rattle.std.proofs.Common.{◌∙◌, Some, ap, sym}
use Rattle.std.specs.Option.{option_copied}
use Rattle.bosh_client.proofs.queue.Queue.load.Goals as goal

pub returns-in-Some-Stanza : goal.returns-in-Some-Stanza
returns-in-Some-Stanza c = c.stanza_load.ensures _ (sym c.first.ensures ∙ ap option_copied c.in-Some-Stanza.is ∙ ap Some c.in-Some-Stanza.field-0-is)
