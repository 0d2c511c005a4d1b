use Rattle.std.proofs.Common.{◌∙◌, ◌<◌, ap, arith, length, subst}
use Rattle.session_table.specs.History.{openings_of}
use Rattle.session_table.proofs.ReplyLemmas.{step_opened}
use Rattle.session_table.proofs.directory.Directory.open.Goals as goal

pub returns-clause-step : goal.returns-clause-step
returns-clause-step c =
    let few : c.live_count.result < c.args.opening.now.limits.live = omega arith in
    let spent : c.self.inside.openings < c.args.opening.now.limits.openings = omega arith in
    step_opened c.args.self.now c.enter.new.self c.args.caller c.self.inside.openings c.args.opening.now c.in_ok-session.session c.split.new.self c.in_ok-handed_out.handed_out
    c.in_ok-session.answer (c.self.invariant.openings_are ∙ ap (λ l. length (openings_of l)) c.self.view_is) c.in_ok-session.ensures c.split.ensures.same
    c.in_ok-handed_out.ensures.split c.in_ok-enter.ensures.ok (subst (λ n. n < c.args.opening.now.limits.live) c.live_count.ensures few) spent
