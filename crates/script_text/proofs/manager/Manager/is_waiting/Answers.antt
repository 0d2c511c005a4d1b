use Rattle.std.proofs.Common.{◌∙◌, ap}
use Rattle.script_text.proofs.ManagerLemmas.{waits_any, waits_same}
use Rattle.script_text.proofs.manager.Manager.is_waiting.Goals as goal

pub returns : goal.returns
returns c = λ m is. c.any_waits.ensures ∙ ap (waits_any c.args.conn) c.as_slice.ensures.value ∙ waits_same c.args.conn _ _ is.live
