use Rattle.std.proofs.Common.{◌∙◌, ap}
use Rattle.session_table.specs.Sids.{sid_of}
use Rattle.session_table.proofs.directory.start.Goals as goal

pub begin-requires-clause-sid : goal.begin-requires-clause-sid
begin-requires-clause-sid c = c.in_ok-sid.ensures ∙ ap (λ n. sid_of n c.args.number) c.as_slice.ensures
