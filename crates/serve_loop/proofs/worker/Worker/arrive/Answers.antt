use Rattle.std.proofs.Common.{refl, sym, subst}
use Rattle.session_core.specs.declared.replies.Arrived.TheVariants as arrivals
use Rattle.serve_loop.specs.Effects.{AddsNothing}
use Rattle.serve_loop.specs.Trail.{setting}
use Rattle.serve_loop.proofs.AnswersLemmas.{answers_from, both_ok, on_err, on_err_as}
use Rattle.session_table.specs.Purses.{OthersStay}
use Rattle.serve_loop.proofs.ArrivingLemmas.{Beside, arrives_answered, arrives_over, arrives_waiting, arrives_wanting, beside_on, over_wanting, replied_so}
use Rattle.serve_loop.proofs.worker.Worker.arrive.Goals as goal

pub returns-in-Answer-clause-answers : goal.returns-in-Answer-clause-answers
returns-in-Answer-clause-answers g c = λ before found.
    let turned = replied_so _ _ _ c.args.request c.args.body c.now-now.result c.in_ok-reply.reply c.arrived_in.result (arrivals.Answer c.in-Answer.text) c.arrived_in.ensures c.in-Answer.is c.in_ok-reply.ensures.called in
    let called : Beside c.args.session.number c.args.self.now.purse c.call.new.self = record { others = c.in_ok-reply.ensures.others; directory = c.in_ok-reply.ensures.directory } in
    let since : Beside c.args.session.number c.call.new.self c.told_by_last.new.self.purse = record { others = c.told_by_last.ensures.others; directory = c.told_by_last.ensures.directory } in
    arrives_answered _ c.args.body c.args.session.sid c.args.request c.now-now.result c.args.session.number before c.args.self.now.purse c.now-now.ensures c.requires.names c.requires.held found
    c.told_by_last.new.self.purse (beside_on _ _ c.call.new.self _ called since) c.in-Answer.text _ _ _ turned c.told_by_last.ensures.told

pub returns-in-Parked-clause-answers : goal.returns-in-Parked-clause-answers
returns-in-Parked-clause-answers g c = λ before found.
    let turned = replied_so _ _ _ c.args.request c.args.body c.now-now.result c.in_ok-reply.reply c.arrived_in.result (arrivals.Parked c.in-Parked.ticket) c.arrived_in.ensures c.in-Parked.is c.in_ok-reply.ensures.called in
    let called : Beside c.args.session.number c.args.self.now.purse c.call.new.self = record { others = c.in_ok-reply.ensures.others; directory = c.in_ok-reply.ensures.directory } in (
      refl,
      arrives_waiting _ c.args.body c.args.session.sid c.args.request c.now-now.result c.args.session.number before c.args.self.now.purse c.now-now.ensures c.requires.names c.requires.held found
          c.call.new.self called c.in-Parked.ticket turned,
    )

pub returns-in-Over-clause-answers : goal.returns-in-Over-clause-answers
returns-in-Over-clause-answers g c = λ before found.
    let turned = replied_so _ _ _ c.args.request c.args.body c.now-now.result c.in_ok-reply.reply c.arrived_in.result arrivals.Over c.arrived_in.ensures c.in-Over.is c.in_ok-reply.ensures.called in
    let called : Beside c.args.session.number c.args.self.now.purse c.call.new.self = record { others = c.in_ok-reply.ensures.others; directory = c.in_ok-reply.ensures.directory } in
    let over : OthersStay c.args.session.number c.call.new.self.sessions c.over.new.self.purse.sessions → Beside c.args.session.number c.call.new.self c.over.new.self.purse =
    λ others. record { others = others; directory = c.over.ensures.directory } in
    answers_from c.over.result _ c.args.body _ _ _ _ _ _ c.over.ensures.text (both_ok c.over.result _ _ c.over.ensures.line c.over.ensures.gone)
    (λ it. arrives_over _ c.args.body c.args.session.sid c.args.request c.now-now.result c.args.session.number before c.args.self.now.purse c.now-now.ensures c.requires.names c.requires.held found
    c.over.new.self.purse (beside_on _ _ c.call.new.self _ called (over it.1.1)) c.call.new.self.sessions _ _ turned it.1.0 it.0)

pub returns-in-Over-clause-lost : goal.returns-in-Over-clause-lost
returns-in-Over-clause-lost g c = λ before found.
    let turned = replied_so _ _ _ c.args.request c.args.body c.now-now.result c.in_ok-reply.reply c.arrived_in.result arrivals.Over c.arrived_in.ensures c.in-Over.is c.in_ok-reply.ensures.called in
    let called : Beside c.args.session.number c.args.self.now.purse c.call.new.self = record { others = c.in_ok-reply.ensures.others; directory = c.in_ok-reply.ensures.directory } in
    on_err_as c.over.result _ _ (λ kept. subst (AddsNothing before) (sym kept)
    (over_wanting (setting c.args.site.now.hosts.now c.args.site.now.limits (g.C.Clock.moment c.args.site.now.clock.now)) c.args.body c.args.session.sid c.args.request c.now-now.result c.args.session.number before c.args.self.now.purse c.now-now.ensures c.requires.names c.requires.held found
    c.call.new.self called turned)) c.over.ensures.kept

pub returns-in_err-reply-clause-lost : goal.returns-in_err-reply-clause-lost
returns-in_err-reply-clause-lost g c = λ before found.
    let called : Beside c.args.session.number c.args.self.now.purse c.call.new.self = record { others = c.in_err-reply.ensures.others; directory = c.in_err-reply.ensures.directory } in
    on_err _ _
    (arrives_wanting (setting c.args.site.now.hosts.now c.args.site.now.limits (g.C.Clock.moment c.args.site.now.clock.now)) c.args.body c.args.session.sid c.args.request c.now-now.result c.args.session.number before c.args.self.now.purse c.now-now.ensures c.requires.names c.requires.held found
    c.call.new.self called _ c.in_err-reply.ensures.called)
