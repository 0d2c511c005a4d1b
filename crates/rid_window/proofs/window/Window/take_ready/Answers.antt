use Rattle.std.proofs.Common.{◌≡◌, None, Some, [], ◌∷◌, ◌++◌, get_or, set, arith, sym, ◌∙◌, ap}
use Rattle.std.proofs.lemmas.List.{set-get_or}
use Rattle.rid_window.specs.StandsFor.{StandsFor}
use Rattle.circular_buffer.specs.Buffer.{keep_last}
use Rattle.rid_window.proofs.Places.{moved_up, none_left, none_ready, some_ready, Holds-none, Holds-take, id_after_is}
use Rattle.rid_window.proofs.Ring.{pushed_up}
use Rattle.rid_window.proofs.window.Window.take_ready.Goals as goal

pub returns-in_err-next-clause-answer : goal.returns-in_err-next-clause-answer
unfolding StandsFor
returns-in_err-next-clause-answer g c = λ plain stands. c.from_residual.ensures ∙ none_left stands c.in_err-next.was

pub returns-in_err-next-clause-after : goal.returns-in_err-next-clause-after
unfolding StandsFor
returns-in_err-next-clause-after g c = λ plain stands. Holds-none stands (none_left stands c.in_err-next.was)

pub returns-in_err-item-clause-answer : goal.returns-in_err-item-clause-answer
unfolding StandsFor
returns-in_err-item-clause-answer g c = λ plain stands.
    c.from_residual-in_err-item.ensures ∙ none_ready c.in_ok-next.next stands c.in_ok-next.was (sym c.take_at.ensures.item ∙ c.in_err-item.was)

pub returns-in_err-item-clause-after : goal.returns-in_err-item-clause-after
unfolding StandsFor
returns-in_err-item-clause-after g c = λ plain stands.
    let places = c.args.self.now.places.items in
    let empty : get_or places 0 None ≡ None = sym c.take_at.ensures.item ∙ c.in_err-item.was in
    let same : set places 0 None ≡ places = ap (set places 0) (sym empty) ∙ set-get_or places 0 None in
    rw (c.take_at.ensures.emptied, same) (Holds-none stands (none_ready c.in_ok-next.next stands c.in_ok-next.was empty))

pub returns-clause-answer : goal.returns-clause-answer
unfolding StandsFor
returns-clause-answer g c = λ plain stands.
    some_ready c.in_ok-next.next c.in_ok-item.item stands c.in_ok-next.was (sym c.take_at.ensures.item ∙ c.in_ok-item.was)

pub returns-clause-after : goal.returns-clause-after
unfolding StandsFor
returns-clause-after g c = λ plain stands.
    let places = c.args.self.now.places.items in
    let full : get_or places 0 None ≡ Some c.in_ok-item.item = sym c.take_at.ensures.item ∙ c.in_ok-item.was in
    let moved : c.push_back.new.self.items ≡ moved_up places =
    ap (λ ring. ring.items) c.push_back.ensures.items ∙ ap (λ ring. keep_last ring.capacity (ring.items ++ None ∷ [])) c.take_at.ensures.emptied
    ∙ pushed_up places c.args.self.now.places.capacity (omega (arith, stands.room)) c.args.self.now.full in
    rw moved
    (Holds-take c.next-later.result c.in_ok-next.next c.in_ok-item.item stands c.in_ok-next.was (omega (arith, stands.room))
    (some_ready c.in_ok-next.next c.in_ok-item.item stands c.in_ok-next.was full)
    (id_after_is c.next-later.result c.in_ok-next.next c.next-later.ensures))
