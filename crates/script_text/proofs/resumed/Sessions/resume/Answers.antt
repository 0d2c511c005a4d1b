use Rattle.std.proofs.Common.{◌∙◌, ◌+◌, ℕ, max, ap, sym, subst}
use Rattle.std.specs.Vec.Iter.{into_iter_items}
use Rattle.script_text.specs.Resumed.{IsSession, latest}
use Rattle.script_text.proofs.RestLemmas.{rest_of}
use Rattle.script_text.proofs.ResumedLemmas.{ResumesOn, resumes_more}
use Rattle.script_text.proofs.resumed.Sessions.resume.Goals as goal

pub loop-session-preserved : goal.loop-session-preserved
loop-session-preserved c =
    let s = c.in_ok-one.ensures.0 in
    let is = c.in_ok-one.ensures.2 in
    let number = c.in-Some-checked_add.ensures.1 in
    let moment = c.later-moment.ensures ∙ ap (max c.loop-session.moment) (c.latest.ensures ∙ ap latest c.entries.ensures.entries) in
    let rest = into_iter_items c.next.new.self in
    subst (λ (n : ℕ). ResumesOn n c.later-moment.result c.sooner-soonest.result c.keep_live.new.kept.items rest c.args.journals.items) (sym number)
    (subst (λ (n : ℕ). ResumesOn (c.loop-session.opened + 1) n c.sooner-soonest.result c.keep_live.new.kept.items rest c.args.journals.items) (sym moment)
    (resumes_more c.loop-session.opened c.loop-session.moment c.loop-session.soonest c.sooner-soonest.result c.loop-session.live.items c.keep_live.new.kept.items c.in-Some.session rest c.args.journals.items
    (subst (λ left. ResumesOn c.loop-session.opened c.loop-session.moment c.loop-session.soonest c.loop-session.live.items left c.args.journals.items) (c.in-Some.ensures.steps).0 c.loop-session.invariant)
    c.sooner-soonest.ensures.first s (subst (λ (n : ℕ). IsSession n c.in-Some.session s) number c.in_ok-one.ensures.1) (c.in_ok-keep_live.ensures.live s is)
    (rest_of c.due.result c.sooner-soonest.result s (c.due.ensures s is) c.sooner-soonest.ensures.other)))
