use Rattle.std.proofs.Common.{◌≡◌, ◌∙◌, ◌+◌, ap, sym, subst, arith, refl}
use Rattle.xmpp_backend.specs.Dues.{IsSound, opened_from}
use Rattle.xmpp_backend.specs.Told.{has_wire}
use Rattle.xmpp_backend.proofs.DuesLemmas.{dues_same, held_less, moved, none_of, sound_opened, sound_still}
use Rattle.xmpp_backend.proofs.dues.Dues.enter.Goals as goal

pub enter_both-requires : goal.enter_both-requires
enter_both-requires c = none_of _ (c.self.invariant.0.tied c.args.wire ∙ ap (λ s. has_wire c.args.wire s.dues.wires) c.self.view_is ∙ c.requires)

pub invariant_of-self-2 : goal.invariant_of-self-2
invariant_of-self-2 c =
    let lengths = moved c.args.wire c.self.inside.owed.items c.self.inside.kept.items in (
      subst (IsSound c.enter_both.new.holds)
          (sym (dues_same _ _ _ _ _ _ _ _ c.in_ok-enter_both.ensures.wires (held_less _ _ _ c.and-self-inside.ensures) c.move_on.ensures.to c.move_on.ensures.from))
          (sound_opened _ _ _ _ c.self.invariant.0 c.in_ok-enter_both.ensures.ok c.in_ok-enter_both.ensures.others),
      rw (c.move_on.ensures.to, c.move_on.ensures.from, c.move_on.ensures.room) (omega (arith, lengths, c.self.invariant.1)),
      rw (c.move_on.ensures.to, c.move_on.ensures.from, c.move_on.ensures.capacity) (omega (arith, lengths, c.self.invariant.2)),
    )

pub returns-clause-ok : goal.returns-clause-ok
returns-clause-ok c =
    dues_same _ _ _ _ _ _ _ _ c.in_ok-enter_both.ensures.wires (held_less _ _ _ c.and-self-inside.ensures) c.move_on.ensures.to c.move_on.ensures.from
    ∙ ap (λ s. opened_from c.args.wire s.dues) c.self.view_is
