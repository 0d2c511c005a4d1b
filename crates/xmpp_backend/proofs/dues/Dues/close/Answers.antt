use Rattle.std.proofs.Common.{Bool, rules, ◌≡◌, ◌∙◌, ◌+◌, ◌≤◌, not, filter, ap, sym, subst, arith, length}
use Rattle.std.proofs.lemmas.Fn.{filter_same}
use Rattle.xmpp_backend.specs.Dues.{Due, IsSound, closed_from, is_on}
use Rattle.xmpp_backend.proofs.DuesLemmas.{dues_same, held_less, shorter, sound_closed}
use Rattle.xmpp_backend.proofs.dues.Dues.close.Goals as goal

pub invariant_of-self : goal.invariant_of-self
invariant_of-self c =
    let p : Due → Bool = λ (due : Due). not (is_on c.args.wire due) in
    let fewer : c.retain.new.self.items ≡ filter p c.self.inside.owed.items = filter_same _ p _ (λ x b f' k. search rules) _ _ c.retain.ensures.filtered in
    let less : c.retain-2.new.self.items ≡ filter p c.self.inside.kept.items = filter_same _ p _ (λ x b f' k. search rules) _ _ c.retain-2.ensures.filtered in
    let a : length (filter p c.self.inside.owed.items) ≤ length c.self.inside.owed.items = shorter p c.self.inside.owed.items in
    let b : length (filter p c.self.inside.kept.items) ≤ length c.self.inside.kept.items = shorter p c.self.inside.kept.items in (
      subst (IsSound c.forget.new.holds)
          (sym (dues_same _ _ _ _ _ _ _ _ c.remove.ensures (held_less _ _ _ c.and-self-inside.ensures) fewer less))
          (sound_closed _ _ _ _ c.self.invariant.0 c.forget.ensures.gone c.forget.ensures.others),
      rw (fewer, less, c.retain.ensures.capacity) (omega (arith, c.self.invariant.1)),
      rw (fewer, less, c.retain-2.ensures.capacity) (omega (arith, c.self.invariant.2)),
    )

pub returns : goal.returns
returns c =
    let p : Due → Bool = λ (due : Due). not (is_on c.args.wire due) in
    let fewer : c.retain.new.self.items ≡ filter p c.self.inside.owed.items = filter_same _ p _ (λ x b f' k. search rules) _ _ c.retain.ensures.filtered in
    let less : c.retain-2.new.self.items ≡ filter p c.self.inside.kept.items = filter_same _ p _ (λ x b f' k. search rules) _ _ c.retain-2.ensures.filtered in
    dues_same _ _ _ _ _ _ _ _ c.remove.ensures (held_less _ _ _ c.and-self-inside.ensures) fewer less ∙ ap (λ s. closed_from c.args.wire s.dues) c.self.view_is
