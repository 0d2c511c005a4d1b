use Rattle.std.proofs.Common.{◌≡◌, ◌∷◌, [], ◌++◌, ◌+◌, ◌<◌, ◌∙◌, ap, sym, subst, arith, refl, length}
use Rattle.std.proofs.lemmas.List.{length-append}
use Rattle.xmpp_backend.specs.Dues.{IsSound}
use Rattle.xmpp_backend.proofs.DuesLemmas.{dues_same, sound_failed}
use Rattle.xmpp_backend.proofs.dues.Dues.fail.Goals as goal

pub invariant_of-self : goal.invariant_of-self
invariant_of-self c =
    let room : 0 < c.self.inside.reserved = subst (λ s. 0 < s.room) (sym c.self.view_is) c.requires.room in
    let lengths = length-append c.self.inside.kept.items (c.new.result ∷ []) in (
      subst (IsSound c.forget.new.holds)
          (sym (dues_same _ _ _ _ _ _ _ _ c.remove.ensures refl refl c.push_back_reserved.ensures.items))
          (sound_failed c.args.wire _ _ _ c.new.result c.self.invariant.0 (ap (λ due. due.0) c.new.ensures) c.forget.ensures.gone c.forget.ensures.others),
      rw c.push_back_reserved.ensures.items (omega (arith, lengths, c.self.invariant.1, room)),
      rw (c.push_back_reserved.ensures.items, c.push_back_reserved.ensures.capacity) (omega (arith, lengths, c.self.invariant.2, room)),
    )
