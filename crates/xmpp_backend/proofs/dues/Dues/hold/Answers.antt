use Rattle.std.proofs.Common.{◌≡◌, ◌∙◌, ◌+◌, ap, sym, subst, arith, refl}
use Rattle.xmpp_backend.specs.Dues.{IsSound, bytes_left, held_from, items_left}
use Rattle.xmpp_backend.proofs.DuesLemmas.{dues_same, held_more, moved, sound_held}
use Rattle.xmpp_backend.proofs.dues.Dues.hold.Goals as goal

pub invariant_of-self : goal.invariant_of-self
invariant_of-self c =
    let lengths = moved c.args.wire c.self.inside.kept.items c.self.inside.owed.items in (
      subst (IsSound c.note.new.holds)
          (sym (dues_same _ _ _ _ _ _ _ _ refl (held_more _ _ _ c.and-self-inside.ensures) c.move_on.ensures.from c.move_on.ensures.to))
          (sound_held _ _ _ _ _ c.self.invariant.0 c.held_beside-hold.ensures.held
          (c.held_beside-hold.ensures.items ∙ ap (items_left c.args.wire) c.move_on.ensures.to) (c.held_beside-hold.ensures.bytes ∙ ap (bytes_left c.args.wire) c.move_on.ensures.to)
          c.note.ensures.open c.note.ensures.closed c.note.ensures.others),
      rw (c.move_on.ensures.from, c.move_on.ensures.to, c.move_on.ensures.capacity) (omega (arith, lengths, c.self.invariant.1)),
      rw (c.move_on.ensures.from, c.move_on.ensures.to, c.move_on.ensures.room) (omega (arith, lengths, c.self.invariant.2)),
    )

pub returns : goal.returns
returns c = dues_same _ _ _ _ _ _ _ _ refl (held_more _ _ _ c.and-self-inside.ensures) c.move_on.ensures.from c.move_on.ensures.to ∙ ap (λ s. held_from c.args.wire s.dues) c.self.view_is
