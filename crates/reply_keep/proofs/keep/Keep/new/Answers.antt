use Rattle.std.proofs.Common.{◌≡◌, [], ◌∷◌, ◌++◌, None, arith, get_or, ◌∙◌, ap, length, length-append}
use Rattle.reply_keep.specs.StandsFor.{StandsFor}
use Rattle.reply_keep.proofs.Places.{Holds-new}
use Rattle.reply_keep.proofs.Ring.{keep_all}
use Rattle.bosh_types.proofs.Places.{get_or-push_none}
use Rattle.reply_keep.proofs.keep.Keep.new.Goals as goal

pub fill-init : goal.fill-init
fill-init c = (
  ap (λ ring. length ring.items) c.in_ok-answers.ensures,
  ap (λ ring. ring.capacity) c.in_ok-answers.ensures,
  λ k. ap (λ ring. get_or ring.items k None) c.in_ok-answers.ensures,
)

pub fill-preserved : goal.fill-preserved
fill-preserved c =
    let more : c.push_back.new.self.items ≡ c.fill.answers.items ++ None ∷ [] =
    ap (λ ring. ring.items) c.push_back.ensures.items
    ∙ keep_all c.fill.answers.capacity (c.fill.answers.items ++ None ∷ []) (omega (arith, length-append c.fill.answers.items (None ∷ []), c.fill.invariant.0, c.fill.invariant.1)) in (
      omega (arith, ap length more, length-append c.fill.answers.items (None ∷ []), c.fill.invariant.0),
      ap (λ ring. ring.capacity) c.push_back.ensures.items ∙ c.fill.invariant.1,
      λ k. ap (λ places. get_or places k None) more ∙ get_or-push_none c.fill.answers.items k ∙ c.fill.invariant.2 k,
    )

pub returns : goal.returns
unfolding StandsFor
returns c = Holds-new c.fill.answers.items c.args.size (omega (arith, c.fill.invariant.0)) c.fill.invariant.2
