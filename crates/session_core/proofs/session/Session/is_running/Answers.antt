use Rattle.std.proofs.Common.{◌∙◌, List, ℕ, ap}
use Rattle.stream_names.specs.Streams.{is_among}
use Rattle.session_core.specs.StandsFor.{StandsFor}
use Rattle.session_core.proofs.session.Session.is_running.Goals as goal

pub returns : goal.returns
unfolding StandsFor
returns c = λ plain stands. c.contains.ensures ∙ ap (λ (streams : List ℕ). is_among streams c.args.stream) (c.running.ensures ∙ stands.streams.running_is)
