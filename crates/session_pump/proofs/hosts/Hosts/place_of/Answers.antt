use Rattle.std.proofs.Common.{◌+◌, subst, sym, ◌∙◌, ap}
use Rattle.session_pump.proofs.PlaceLemmas.{any_further, first_further, first_here}
use Rattle.session_pump.specs.Places.{IsFirstPlace}
use Rattle.std.specs.Str.{bytes_eq}
use Rattle.session_pump.proofs.hosts.Hosts.place_of.Goals as goal

pub returns-then-is_named-clause-first : goal.returns-then-is_named-clause-first
returns-then-is_named-clause-first g c =
    subst (λ place. IsFirstPlace (λ stand. bytes_eq stand.host.name c.args.name.now) c.args.self.now.stands.items place) (sym c.loop-stand.invariant.place)
    (first_here _ _ _ _ c.stand-item.result c.deref-stand-items.ensures.value c.loop-stand-test.true c.stand-item.is (sym c.is_named.ensures ∙ c.if-is_named.true) c.loop-stand.invariant.first)

pub loop-stand-preserved : goal.loop-stand-preserved
loop-stand-preserved g c = record {
  place = ap (λ n. n + 1) c.loop-stand.invariant.place;
  rest = any_further (λ stand. bytes_eq stand.host.name c.args.name.now) _ _ _ c.stand-item.result _ c.deref-stand-items.ensures.value c.loop-stand-test.true c.stand-item.is
      (sym c.is_named.ensures ∙ c.if-is_named.false) c.loop-stand.invariant.rest;
  first = first_further (λ stand. bytes_eq stand.host.name c.args.name.now) _ _ _ c.stand-item.result c.deref-stand-items.ensures.value c.loop-stand-test.true c.stand-item.is
      (sym c.is_named.ensures ∙ c.if-is_named.false) c.loop-stand.invariant.first;
}
