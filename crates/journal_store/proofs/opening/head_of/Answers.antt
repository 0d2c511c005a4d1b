use Rattle.std.proofs.Common.{◌≡◌, ◌∷◌, [], sym, ◌∙◌, arith}
use Rattle.std.proofs.lemmas.Bool.Decides.{nat_tests}
use Rattle.journal_store.specs.Records.{number4}
use Rattle.journal_store.proofs.Numbers.{number4_of, same_number4}
use Rattle.journal_store.proofs.opening.head_of.Goals as goal

pub returns-then-count-behind : goal.returns-then-count-behind
returns-then-count-behind c = λ count small fits is.
    let bytes : number4 count ≡ c.args.a ∷ c.args.b ∷ c.args.c ∷ c.args.d ∷ [] = cc in
    let four = number4_of c.args.a c.args.b c.args.c c.args.d c.from_be_bytes.result (omega (arith, c.ranges.a.fits)) (omega (arith, c.ranges.b.fits)) (omega (arith, c.ranges.c.fits)) (omega (arith, c.ranges.d.fits)) c.from_be_bytes.ensures in
    let same : count ≡ c.from_be_bytes.result = same_number4 count c.from_be_bytes.result small (omega (arith, c.from_be_bytes.type_inv)) (bytes ∙ sym four) in
    omega (arith, same, c.from-count.ensures, c.if-count-behind.true, fits)

pub returns : goal.returns
returns c =
    let four = number4_of c.args.a c.args.b c.args.c c.args.d c.from-count.result (omega (arith, c.ranges.a.fits)) (omega (arith, c.ranges.b.fits)) (omega (arith, c.ranges.c.fits)) (omega (arith, c.ranges.d.fits)) (c.from-count.ensures ∙ c.from_be_bytes.ensures) in
    let gate : c.args.gate ≡ 1 = grind (arith, nat_tests) in (
      (λ i. gate i ∷ sym four i),
      c.if-count-behind.false,
      omega (arith, c.from-count.ensures, c.from_be_bytes.type_inv),
    )
