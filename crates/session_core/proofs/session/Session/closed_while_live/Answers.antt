use Rattle.std.proofs.Common.{◌∙◌, sym, refl}
use Rattle.session_core.proofs.ServedLemmas.{closed_on, did_same, does_same, full_closed}
use Rattle.session_core.proofs.session.Session.closed_while_live.Goals as goal

pub returns-then-is_full : goal.returns-then-is_full
returns-then-is_full c = λ plain stands live.
    does_same (full_closed plain c.args.stream c.args.closing c.args.now live (sym (c.is_full.ensures plain stands) ∙ c.if-is_full.true))
    (record { replies = refl; after = c.in_ok-fill.ensures plain stands live })

pub returns : goal.returns
returns c = λ plain stands live.
    let room = sym (c.is_full.ensures plain stands) ∙ c.if-is_full.false in
    did_same c.closed_in_time.new.self c.closed_in_time.result
    (closed_on plain c.args.stream c.args.closing c.args.now live room) (c.closed_in_time.ensures _ (c.in_ok-enter.ensures plain stands room))
