use Rattle.std.proofs.Common.{◌∙◌, ◌++◌, ◌∷◌, [], sym, refl}
use Rattle.session_core.specs.declared.outward.Outward.TheVariants.{Close}
use Rattle.session_core.specs.StandsFor.{StandsFor}
use Rattle.session_core.proofs.ServedLemmas.{closed_done, closed_over, closing_given, does_same}
use Rattle.session_core.proofs.session.Session.closed_in_time.Goals as goal

pub returns-then-not-takes_items : goal.returns-then-not-takes_items
unfolding StandsFor
returns-then-not-takes_items c = λ plain stands.
    does_same (closed_over plain c.args.stream c.args.closing (sym (c.takes_items.ensures.of_plain plain stands) ∙ c.if-not-takes_items.true))
    (record { replies = refl; after = stands })

pub returns : goal.returns
unfolding StandsFor
returns c = λ plain stands.
    does_same (closed_done plain c.args.stream c.args.closing (sym (c.takes_items.ensures.of_plain plain stands) ∙ c.if-not-takes_items.false))
    (record {
      replies = refl;
      after =
          c.in_ok-settle.ensures (record plain { given = plain.given ++ Close c.args.stream c.args.closing ∷ [] })
          (closing_given c.args.stream c.args.closing stands (sym (c.takes_items.ensures.of_plain plain stands) ∙ c.if-not-takes_items.false) c.in_ok-push_closing.ensures.after);
    })
