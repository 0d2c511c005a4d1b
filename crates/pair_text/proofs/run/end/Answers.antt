use Rattle.std.proofs.Common.{◌≡◌, ◌∙◌, ◌++◌, ◌∷◌, [], List, ap, refl}
use Rattle.two_ends.specs.declared.sums.Sums.{Sums}
use Rattle.world_laws.specs.Sums.{sums_of}
use Rattle.pair_text.specs.declared.report.PairReport.{PairReport}
use Rattle.pair_text.specs.declared.report.PairReport.TheVariants.{Done, Summed}
use Rattle.pair_text.proofs.SumLemmas.{sums_shown}
use Rattle.pair_text.proofs.run.end.Goals as goal

pub returns : goal.returns
returns c = λ w is. record {
  lines = c.in_ok-push-2.ensures.items ∙ ap (λ (l : List PairReport). l ++ Done c.args.n ∷ []) (c.in_ok-push.ensures.items ∙ ap (λ (l : List PairReport). l ++ Summed c.sums.result ∷ []) c.new-lines.ensures.items)
      ∙ ap (λ (s : Sums). Summed s ∷ Done c.args.n ∷ []) (sums_shown c.sums.result (sums_of w) (c.sums.ensures w is));
  next = refl;
}
