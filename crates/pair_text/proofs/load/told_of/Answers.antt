use Rattle.std.proofs.Common.{◌≡◌, ◌∙◌, ℕ, Option, ap, length, subst, sym}
use Rattle.bosh_types.specs.declared.ending.Ending.{Ending}
use Rattle.two_ends.specs.declared.sums.Sums.{Sums}
use Rattle.two_ends.specs.Worlds.{IsWorld}
use Rattle.world_laws.specs.Sums.{sums_of}
use Rattle.pair_text.specs.Script.{shown_sums}
use Rattle.pair_text.specs.declared.load_line.LoadLine.{LoadLine}
use Rattle.pair_text.proofs.SumLemmas.{sums_shown}
use Rattle.pair_text.proofs.load.told_of.Goals as goal

pub returns : goal.returns
returns c = λ plain is.
    let w = plain.world in
    let told : ℕ → ℕ → Sums → Option Ending → LoadLine = λ requests copies sums ending. record { number = c.args.number; requests = requests; copies = copies; sums = sums; ending = ending } in
    ap (λ requests. told requests c.args.load.now.copies c.sums.result c.ending.result) (c.requests.ensures w (subst (λ world. IsWorld world w) (sym c.deref.ensures) is.world))
    ∙ ap (λ copies. told (length w.sent) copies c.sums.result c.ending.result) is.copies
    ∙ ap (λ sums. told (length w.sent) plain.copies sums c.ending.result) (sums_shown c.sums.result (sums_of w) (c.sums.ensures w (subst (λ world. IsWorld world w) (sym c.deref-2.ensures) is.world)))
    ∙ ap (λ ending. told (length w.sent) plain.copies (shown_sums (sums_of w)) ending) (c.ending.ensures w (subst (λ world. IsWorld world w) (sym c.deref-3.ensures) is.world))
