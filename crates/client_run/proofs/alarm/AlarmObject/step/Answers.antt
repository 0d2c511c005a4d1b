use Rattle.std.proofs.Common.{refl, sym, ◌∙◌, ap}
use Rattle.std.specs.Option.{option_to_list}
use Rattle.client_run.proofs.AlarmLemmas.{raised_first}
use Rattle.client_run.proofs.alarm.AlarmObject.step.Goals as goal

pub returns-in-None : goal.returns-in-None
returns-in-None c = raised_first c.args.caller c.args.self.now _ (sym c.self.view_is ∙ ap option_to_list c.in-None.is) refl
