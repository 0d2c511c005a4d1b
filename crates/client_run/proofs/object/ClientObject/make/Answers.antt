use Rattle.std.proofs.Common.{arith, subst, sym, ◌∙◌, ap, refl, length}
use Rattle.client_run.proofs.HistoryLemmas.{history_on, length_on, replies_on, stands_on, stands_still}
use Rattle.client_run.specs.History.{Stands, Steps, history_of}
use Rattle.client_run.proofs.object.ClientObject.make.Goals as goal

pub invariant_of-self-2 : goal.invariant_of-self-2
invariant_of-self-2 c =
    let setup = c.self.inside.setup.value in
    let calls = c.self.inside.calls.items in
    let more = ap (λ items. history_of setup items) c.and-self-inside.ensures in
    let stands = stands_on c.self.inside.client c.made.new.client (history_of setup calls) c.args.call.now c.in_ok-reply.reply (c.self.invariant).0 c.in_ok-reply.ensures.step c.in_ok-reply.ensures.named (record { caller = c.args.caller; entered = _ }) refl in (
      subst (Stands c.made.new.client) (sym (more ∙ history_on setup calls c.args.caller c.args.call.now)) stands,
      omega (arith, c.in-Some.ensures, (c.self.invariant).1, ap length more, length_on setup calls c.args.caller c.args.call.now),
    )

pub invariant_of-self-then-not-changes : goal.invariant_of-self-then-not-changes
invariant_of-self-then-not-changes c = (
  stands_still c.self.inside.client c.made.new.client (history_of c.self.inside.setup.value c.self.inside.calls.items) c.args.call.now c.in_ok-reply.reply (c.self.invariant).0
      c.in_ok-reply.ensures.step c.in_ok-reply.ensures.named (sym c.changes.ensures ∙ c.if-not-changes.true),
  (c.self.invariant).1,
)

pub returns-clause-step : goal.returns-clause-step
returns-clause-step c =
    let setup = c.self.inside.setup.value in
    let calls = c.self.inside.calls.items in
    let more = ap (λ items. history_of setup items) c.and-self-inside.ensures in
    let replies = replies_on c.self.inside.client c.made.new.client (history_of setup calls) c.args.call.now c.in_ok-reply.reply (c.self.invariant).0 c.in_ok-reply.ensures.step c.in_ok-reply.ensures.named c.args.caller (sym c.changes.ensures ∙ c.if-not-changes.false) in
    subst (λ l. Steps l c.args.caller c.args.call.now c.in_ok-reply.reply (history_of setup c.and-self-inside.result.items)) c.self.view_is
    (subst (λ l. Steps (history_of setup calls) c.args.caller c.args.call.now c.in_ok-reply.reply l) (sym (more ∙ history_on setup calls c.args.caller c.args.call.now)) replies)
