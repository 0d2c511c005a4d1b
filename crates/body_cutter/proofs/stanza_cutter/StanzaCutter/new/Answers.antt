use Rattle.std.proofs.Common.{◌∙◌, refl, ap, arith}
use Rattle.body_cutter.specs.declared.place.Kind.TheVariants as kinds
use Rattle.body_cutter.specs.Begun.{HasBegun}
use Rattle.body_cutter.specs.Refusal.{is_complete}
use Rattle.body_cutter.proofs.BegunStanzas.{first_open}
use Rattle.body_cutter.proofs.FedLemmas.{read_none}
use Rattle.body_cutter.proofs.stanza_cutter.StanzaCutter.new.Goals as goal

pub returns : goal.returns
unfolding HasBegun
returns c = record {
  read = read_none kinds.Stanza _ _ c.new.ensures c.new-2.ensures;
  unended = ap is_complete c.new.ensures ∙ first_open;
  within = omega arith;
}
