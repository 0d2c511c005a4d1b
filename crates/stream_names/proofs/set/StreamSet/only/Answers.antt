use Rattle.std.proofs.Common.{◌∙◌, ap, List, ℕ}
use Rattle.stream_names.specs.Streams.{with_stream}
use Rattle.stream_names.proofs.Numbers.{one_alone}
use Rattle.stream_names.proofs.set.StreamSet.only.Goals as goal

pub returns : goal.returns
returns c = c.insert.ensures ∙ ap (λ (xs : List ℕ). with_stream xs c.args.stream) c.none-set.ensures ∙ one_alone c.args.stream c.number-number.ensures.in_range
