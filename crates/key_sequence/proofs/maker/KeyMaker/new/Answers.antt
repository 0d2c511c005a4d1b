use Rattle.std.proofs.Common.{◌≡◌, ◌-◌, [], ◌∷◌, reverse, refl, sym, ◌∙◌, ap, arith}
use Rattle.std.proofs.lemmas.List.{reverse-append}
use Rattle.key_sequence.specs.Chain.{hex_digest, key_of, keys_down}
use Rattle.key_sequence.proofs.Chain.{key_of-next, keys_down-next}
use Rattle.key_sequence.proofs.maker.KeyMaker.new.Goals as goal

pub loop-number-init : goal.loop-number-init
loop-number-init c = (c.digest_of-newkey.ensures, rw c.in_ok-keys.ensures.items refl)

pub loop-number-preserved : goal.loop-number-preserved
loop-number-preserved c = (
  c.digest_of-newkey-in-loop-number.ensures ∙ ap hex_digest (c.as_slice.ensures.value ∙ c.loop-number.invariant.0)
      ∙ sym (key_of-next c.args.seed.now c.loop-number._number),
  ap reverse c.in_ok-push.ensures.items ∙ reverse-append c.loop-number.keys.items (c.loop-number.newkey ∷ [])
      ∙ ap (λ key. key ∷ reverse c.loop-number.keys.items) c.loop-number.invariant.0
      ∙ ap (λ keys. key_of c.args.seed.now c.loop-number._number ∷ keys) c.loop-number.invariant.1
      ∙ sym (keys_down-next c.args.seed.now c.loop-number._number (omega arith)),
)

pub returns-clause-newkey : goal.returns-clause-newkey
returns-clause-newkey c =
    let last : c.loop-number._number ≡ c.args.n = omega arith in
    c.loop-number.invariant.0 ∙ ap (key_of c.args.seed.now) last

pub returns-clause-left : goal.returns-clause-left
returns-clause-left c =
    let last : c.loop-number._number ≡ c.args.n = omega arith in
    c.loop-number.invariant.1 ∙ ap (λ n. keys_down c.args.seed.now (n - 1)) last
