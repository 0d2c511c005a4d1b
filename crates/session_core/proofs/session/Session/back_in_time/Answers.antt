use Rattle.std.proofs.Common.{◌∙◌, ℕ, ◌++◌, ◌∷◌, [], ap, sym, refl}
use Rattle.session_core.specs.declared.outward.Outward.TheVariants.{Stanza}
use Rattle.session_core.specs.Queue.{has_room_for}
use Rattle.session_core.specs.StandsFor.{StandsFor}
use Rattle.session_core.proofs.ServedLemmas.{back_over, back_full, back_done, does_same, room_is, stanza_given}
use Rattle.session_core.proofs.session.Session.back_in_time.Goals as goal

pub returns-then-not-takes_items : goal.returns-then-not-takes_items
unfolding StandsFor
returns-then-not-takes_items c = λ plain stands.
    does_same (back_over plain c.args.stream c.args.stanza.now (sym (c.takes_items.ensures.of_plain plain stands) ∙ c.if-not-takes_items.true))
    (record { replies = refl; after = stands })

pub returns-then-not-has_room : goal.returns-then-not-has_room
unfolding StandsFor
returns-then-not-has_room c = λ plain stands.
    does_same
    (back_full plain c.args.stream c.args.stanza.now (sym (c.takes_items.ensures.of_plain plain stands) ∙ c.if-not-takes_items.false)
    (sym (room_is stands c.args.stanza.now) ∙ sym (c.has_room.ensures ∙ ap (λ (n : ℕ). has_room_for c.args.self.now.outbox.items n) c.len.ensures) ∙ c.if-not-has_room.true))
    (record { replies = refl; after = stands })

pub returns : goal.returns
unfolding StandsFor
returns c = λ plain stands.
    does_same
    (back_done plain c.args.stream c.args.stanza.now (sym (c.takes_items.ensures.of_plain plain stands) ∙ c.if-not-takes_items.false)
    (sym (room_is stands c.args.stanza.now) ∙ sym (c.has_room.ensures ∙ ap (λ (n : ℕ). has_room_for c.args.self.now.outbox.items n) c.len.ensures) ∙ c.if-not-has_room.false))
    (record {
      replies = refl;
      after =
          c.in_ok-settle.ensures (record plain { given = plain.given ++ Stanza c.args.stream c.args.stanza.now ∷ [] })
          (stanza_given c.args.stream c.args.stanza.now stands c.in_ok-again.ensures c.in_ok-push_stanza.ensures.after);
    })
