use Rattle.std.proofs.Common.{◌≡◌, ◌∙◌, ap, subst, sym}
use Rattle.bosh_types.specs.Rid.{IsRid}
use Rattle.pair_text.specs.Script.{setup_of}
use Rattle.pair_text.proofs.SetupLemmas.{may_begin}
use Rattle.pair_text.proofs.run.meet.Goals as goal

pub new-requires : goal.new-requires
new-requires c =
    let same : c.in_ok-setup.setup ≡ setup_of c.args.host.name c.args.terms = c.in_ok-setup.ensures ∙ ap (λ host. setup_of host c.args.terms) c.as_slice.ensures in
    may_begin c.args.host.name c.args.host.greeting c.in_ok-setup.setup c.args.host.serves (sym c.if-not-is_valid.ensures)
    (subst IsRid (ap (λ setup. setup.first) (sym same)) c.requires) (ap (λ setup. setup.to) same)
