use Rattle.std.proofs.Common.{◌∙◌, sym, refl}
use Rattle.session_core.proofs.ServedLemmas.{back_on, did_same, does_same, full_back}
use Rattle.session_core.proofs.session.Session.back_while_live.Goals as goal

pub returns-then-is_full : goal.returns-then-is_full
returns-then-is_full c = λ plain stands live.
    does_same
    (full_back plain c.args.stream c.args.stanza.now c.args.now c.cost_of_stanza-cost.result c.cost_of_stanza-cost.ensures live
    (sym (c.is_full.ensures plain stands) ∙ c.if-is_full.true))
    (record { replies = refl; after = c.in_ok-fill.ensures plain stands live })

pub returns : goal.returns
returns c = λ plain stands live.
    let room = sym (c.is_full.ensures plain stands) ∙ c.if-is_full.false in
    did_same c.back_in_time.new.self c.back_in_time.result
    (back_on plain c.args.stream c.args.stanza.now c.args.now c.cost_of_stanza-cost.result c.cost_of_stanza-cost.ensures live room)
    (c.back_in_time.ensures _ (c.in_ok-enter.ensures plain stands room))
