use Rattle.std.proofs.Common.{◌≡◌, ◌∙◌, ◌+◌, ap, sym, subst, arith, refl}
use Rattle.xmpp_backend.specs.Dues.{IsSound, resumed_from}
use Rattle.xmpp_backend.proofs.DuesLemmas.{dues_same, held_less, moved, sound_resumed}
use Rattle.xmpp_backend.proofs.dues.Dues.resume.Goals as goal

pub invariant_of-self : goal.invariant_of-self
invariant_of-self c =
    let lengths = moved c.args.wire c.self.inside.owed.items c.self.inside.kept.items in (
      subst (IsSound c.note.new.holds)
          (sym (dues_same _ _ _ _ _ _ _ _ refl (held_less _ _ _ c.and-self-inside.ensures) c.move_on.ensures.to c.move_on.ensures.from))
          (sound_resumed _ _ _ _ _ c.self.invariant.0 c.unheld.ensures c.note.ensures.open c.note.ensures.closed c.note.ensures.others),
      rw (c.move_on.ensures.to, c.move_on.ensures.from, c.move_on.ensures.room) (omega (arith, lengths, c.self.invariant.1)),
      rw (c.move_on.ensures.to, c.move_on.ensures.from, c.move_on.ensures.capacity) (omega (arith, lengths, c.self.invariant.2)),
    )

pub returns : goal.returns
returns c = dues_same _ _ _ _ _ _ _ _ refl (held_less _ _ _ c.and-self-inside.ensures) c.move_on.ensures.to c.move_on.ensures.from ∙ ap (λ s. resumed_from c.args.wire s.dues) c.self.view_is
