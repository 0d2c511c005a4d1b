use Rattle.std.proofs.Common.{◌∙◌, refl, ap}
use Rattle.body_cutter.specs.Reader.{first_state}
use Rattle.body_cutter.proofs.FedLemmas.{read_none}
use Rattle.body_cutter.proofs.feeding.FedText.new.Goals as goal

pub returns : goal.returns
returns c = record {
  kind_is = refl;
  come = read_none c.args.kind _ _ (c.new.ensures ∙ ap (first_state c.args.kind) c.start_of.ensures) c.new-2.ensures;
  len_is = refl;
}
