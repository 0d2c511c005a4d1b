use Rattle.std.proofs.Common.{◌∙◌, ap, refl}
use Rattle.std.proofs.lemmas.Iterator.{YieldsList-from_slice}
use Rattle.std.proofs.lemmas.Iterator.Consumers.{YieldsList-from_filter, count_from_yields_List}
use Rattle.std.proofs.lemmas.List.Sums.{length-filter}
use Rattle.two_ends.specs.Summed.{is_passed_stanza}
use Rattle.two_ends.proofs.sums.passed_in.Goals as goal

pub returns : goal.returns
returns c =
    let source = ap (λ i. i.rest.now) c.filter.ensures.source ∙ c.iter.ensures.rest in
    count_from_yields_List _ c.count.result c.count.ensures.ran
    (YieldsList-from_filter _ is_passed_stanza (YieldsList-from_slice c.args.seen.now source) refl
    (λ x b q call. (refl, call.called.met ∙ ap (λ s. is_passed_stanza s.now) call.shows)))
    ∙ length-filter is_passed_stanza c.args.seen.now
