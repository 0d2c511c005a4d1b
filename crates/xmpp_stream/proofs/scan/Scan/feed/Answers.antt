use Rattle.std.proofs.Common.{◌≡◌, ℕ, List, arith, ap, length, subst, take, drop, refl}
use Rattle.std.specs.Prelude.{◌-◌}
use Rattle.std.proofs.lemmas.List.{length-drop, take_rest}
use Rattle.body_cutter.specs.Begun.{IsTold}
use Rattle.body_cutter.specs.declared.stanza_cutter.Fed.{Fed}
use Rattle.xmpp_stream.proofs.ScanLemmas.{found_more, found_none, found_whole, ok_is, unscanned}
use Rattle.xmpp_stream.proofs.scan.Scan.feed.Goals as goal

pub returns-in-More-clause-ok : goal.returns-in-More-clause-ok
returns-in-More-clause-ok c = λ within scans.
    let count = c.args.self.now.count in
    let rest = c.args.rest.now in
    let at = c.min-at.result in
    let same : at ≡ count = omega (arith, c.min-at.ensures, c.begun-cutter.ensures.count, within) in
    let left : take (length rest - at) (drop at rest) ≡ drop at rest = take_rest rest at in
    let told : IsTold c.in_ok-cutter.field-0 (take count rest) (drop at rest) = subst (λ (piece : List ℕ). IsTold c.in_ok-cutter.field-0 (take count rest) piece) left
    (ok_is (λ (f : Fed). IsTold f (take count rest) (take (length rest - at) (drop at rest))) c.feed.result c.in_ok-cutter.field-0 c.in_ok-cutter.was
    (c.feed.ensures (take count rest) (c.begun-cutter.ensures.begun (take count rest) scans))) in
    let k = found_more count at rest c.in_ok-cutter.field-0 same told c.in-More.cutter c.in-More.is in
    ((refl, k.0), k.1)

pub returns-in-Whole-clause-ok : goal.returns-in-Whole-clause-ok
returns-in-Whole-clause-ok c = λ within scans.
    let count = c.args.self.now.count in
    let rest = c.args.rest.now in
    let at = c.min-at.result in
    let same : at ≡ count = omega (arith, c.min-at.ensures, c.begun-cutter.ensures.count, within) in
    let left : take (length rest - at) (drop at rest) ≡ drop at rest = take_rest rest at in
    let told : IsTold c.in_ok-cutter.field-0 (take count rest) (drop at rest) = subst (λ (piece : List ℕ). IsTold c.in_ok-cutter.field-0 (take count rest) piece) left
    (ok_is (λ (f : Fed). IsTold f (take count rest) (take (length rest - at) (drop at rest))) c.feed.result c.in_ok-cutter.field-0 c.in_ok-cutter.was
    (c.feed.ensures (take count rest) (c.begun-cutter.ensures.begun (take count rest) scans))) in
    let whole : length rest - c.saturating_sub.result ≡ length rest - (length (drop at rest) - c.in-Whole.more) = omega (arith, c.saturating_sub.ensures, ap (length {A = ℕ}) left, length-drop at rest) in
    let k = found_whole count at rest c.in_ok-cutter.field-0 same told c.in-Whole.more (length rest - c.saturating_sub.result) c.in-Whole.is within whole in
    (unscanned _ c.begun-cutter.ensures.cutter refl, k.0, k.1)

pub returns-in-Refused-clause-ok : goal.returns-in-Refused-clause-ok
returns-in-Refused-clause-ok c = λ within scans.
    let count = c.args.self.now.count in
    let rest = c.args.rest.now in
    let at = c.min-at.result in
    let same : at ≡ count = omega (arith, c.min-at.ensures, c.begun-cutter.ensures.count, within) in
    let left : take (length rest - at) (drop at rest) ≡ drop at rest = take_rest rest at in
    let told : IsTold c.in_ok-cutter.field-0 (take count rest) (drop at rest) = subst (λ (piece : List ℕ). IsTold c.in_ok-cutter.field-0 (take count rest) piece) left
    (ok_is (λ (f : Fed). IsTold f (take count rest) (take (length rest - at) (drop at rest))) c.feed.result c.in_ok-cutter.field-0 c.in_ok-cutter.was
    (c.feed.ensures (take count rest) (c.begun-cutter.ensures.begun (take count rest) scans))) in
    (c.in-Refused.field-0, found_none count at rest c.in_ok-cutter.field-0 same told c.in-Refused.field-0 c.in-Refused.is)
