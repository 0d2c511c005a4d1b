use Rattle.std.proofs.Common.{◌≡◌, ◌+◌, ◌-◌, refl, sym, ◌∙◌, ap, arith}
use Rattle.rid_window.specs.PlainWindow.{reach}
use Rattle.rid_window.specs.StandsFor.{StandsFor}
use Rattle.rid_window.proofs.Places.{below, within, above, not_taken, at_place, at_empty, reach-le, Holds-place}
use Rattle.rid_window.proofs.window.Window.place.Goals as goal

pub returns-in_default-clause-answer : goal.returns-in_default-clause-answer
unfolding StandsFor
returns-in_default-clause-answer g c = λ plain stands. (refl, below c.args.rid stands (rw c.in_default.is tt))

pub returns-then-value-clause-answer : goal.returns-then-value-clause-answer
unfolding StandsFor
returns-then-value-clause-answer g c = λ plain stands. (refl, below c.args.rid stands (rw c.in-Some.is (omega arith)))

pub returns-then-is_filled-clause-answer : goal.returns-then-is_filled-clause-answer
unfolding StandsFor
returns-then-is_filled-clause-answer g c = λ plain stands.
    let here : c.args.rid ≡ c.in-Some.next + (c.value-3.result - c.value-4.result) = omega arith in (
      refl,
      not_taken c.in-Some.next _ c.args.rid stands c.in-Some.is here,
      rw (at_place c.in-Some.next _ c.args.rid stands c.in-Some.is here) (sym c.is_filled.ensures ∙ c.if-is_filled.true),
    )

pub returns-then-ahead-reach-clause-answer : goal.returns-then-ahead-reach-clause-answer
unfolding StandsFor
returns-then-ahead-reach-clause-answer g c = λ plain stands.
    let here : c.args.rid ≡ c.in-Some.next + (c.value-3.result - c.value-4.result) = omega arith in
    let width : c.reach.result ≡ reach plain.width c.args.extra = c.reach.ensures ∙ ap (λ n. reach n c.args.extra) (omega (arith, stands.room)) in (
      refl,
      above c.in-Some.next _ _ c.args.rid stands c.in-Some.is here (rw (← width) c.if-ahead-reach.true),
      at_empty c.in-Some.next _ c.args.rid stands c.in-Some.is here (sym c.is_filled.ensures ∙ c.if-is_filled.false),
    )

pub returns-clause-answer : goal.returns-clause-answer
unfolding StandsFor
returns-clause-answer g c = λ plain stands.
    let here : c.args.rid ≡ c.in-Some.next + (c.value-3.result - c.value-4.result) = omega arith in
    let width : c.reach.result ≡ reach plain.width c.args.extra = c.reach.ensures ∙ ap (λ n. reach n c.args.extra) (omega (arith, stands.room)) in (
      within c.in-Some.next _ _ c.args.rid stands c.in-Some.is here (rw (← width) c.if-ahead-reach.false),
      at_empty c.in-Some.next _ c.args.rid stands c.in-Some.is here (sym c.is_filled.ensures ∙ c.if-is_filled.false),
    )

pub returns-clause-after : goal.returns-clause-after
unfolding StandsFor
returns-clause-after g c = λ plain stands.
    let here : c.args.rid ≡ c.in-Some.next + (c.value-3.result - c.value-4.result) = omega arith in
    let width : c.reach.result ≡ reach plain.width c.args.extra = c.reach.ensures ∙ ap (λ n. reach n c.args.extra) (omega (arith, stands.room)) in
    rw c.put_at.ensures
    (Holds-place c.in-Some.next _ c.args.rid c.args.item stands c.in-Some.is here (omega (arith, stands.room, width, reach-le plain.width c.args.extra))
    (at_empty c.in-Some.next _ c.args.rid stands c.in-Some.is here (sym c.is_filled.ensures ∙ c.if-is_filled.false)))
