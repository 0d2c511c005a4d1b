use Rattle.std.proofs.Common.{◌≡◌, [], ◌∷◌, ◌++◌, None, arith, get_or, refl, sym, ◌∙◌, ap, length, length-append}
use Rattle.rid_window.specs.StandsFor.{StandsFor}
use Rattle.bosh_types.proofs.Places.{get_or-push_none}
use Rattle.rid_window.proofs.Ring.{keep_all}
use Rattle.rid_window.proofs.window.Window.new.Goals as goal

pub fill-init : goal.fill-init
fill-init g c = (
  ap (λ ring. length ring.items) c.in_ok-places.ensures,
  ap (λ ring. ring.capacity) c.in_ok-places.ensures,
  λ k. ap (λ ring. get_or ring.items k None) c.in_ok-places.ensures,
)

pub fill-preserved : goal.fill-preserved
fill-preserved g c =
    let more : c.push_back.new.self.items ≡ c.fill.places.items ++ None ∷ [] =
    ap (λ ring. ring.items) c.push_back.ensures.items
    ∙ keep_all c.fill.places.capacity (c.fill.places.items ++ None ∷ []) (omega (arith, length-append c.fill.places.items (None ∷ []), c.fill.invariant.0, c.fill.invariant.1)) in (
      omega (arith, ap length more, length-append c.fill.places.items (None ∷ []), c.fill.invariant.0),
      ap (λ ring. ring.capacity) c.push_back.ensures.items ∙ c.fill.invariant.1,
      λ k. ap (λ places. get_or places k None) more ∙ get_or-push_none c.fill.places.items k ∙ c.fill.invariant.2 k,
    )

pub returns : goal.returns
unfolding StandsFor
returns g c = record {
  next_is = refl;
  room = omega (arith, c.fill.invariant.0);
  each = λ first ahead e. sym (c.fill.invariant.2 ahead);
}
