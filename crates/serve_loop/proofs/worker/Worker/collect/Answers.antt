use Rattle.std.proofs.Common.{refl, inl, inr}
use Rattle.session_journal.specs.declared.asking.Found.TheVariants as found
use Rattle.serve_loop.proofs.ArrivingLemmas.{Beside, beside_on}
use Rattle.serve_loop.proofs.CollectingLemmas.{collects_answered, taken_over, unanswered, waits_still}
use Rattle.serve_loop.proofs.worker.Worker.collect.Goals as goal

pub returns-in-None-clause-collects : goal.returns-in-None-clause-collects
returns-in-None-clause-collects g c = λ site body before waits.
    let told = c.in-None.ensures in
    let called : Beside c.args.waiting.session.number c.args.self.now.purse c.poll.new.self = record { others = told.others; directory = told.directory } in (
      refl,
      refl,
      waits_still site body c.args.waiting before c.args.self.now.purse waits c.poll.new.self called told.polled,
      unanswered site body c.args.waiting before c.args.self.now.purse waits c.poll.new.self called told.polled,
    )

pub returns-in-Some-Answer-clause-collects : goal.returns-in-Some-Answer-clause-collects
returns-in-Some-Answer-clause-collects g c = λ site body before waits.
    let told = c.in-Some-Answer.ensures in
    let called : Beside c.args.waiting.session.number c.args.self.now.purse c.poll.new.self = record { others = told.others; directory = told.directory } in
    let since : Beside c.args.waiting.session.number c.poll.new.self c.told_by_last.new.self.purse = record { others = c.told_by_last.ensures.others; directory = c.told_by_last.ensures.directory } in
    collects_answered site body c.args.waiting before c.args.self.now.purse waits c.told_by_last.new.self.purse (beside_on _ _ c.poll.new.self _ called since) _ c.poll.new.self.sessions _ _
    (rw c.in-Some-Answer.field-0-is at told.polled)
    c.told_by_last.ensures.told

pub returns-in-Some-Superseded-clause-collects : goal.returns-in-Some-Superseded-clause-collects
returns-in-Some-Superseded-clause-collects g c = λ site body before waits.
    let told = c.in-Some-Superseded.ensures in (
      refl,
      taken_over site body c.args.waiting before c.args.self.now.purse waits c.poll.new.self (record { others = told.others; directory = told.directory }) found.Superseded (inl refl)
          (rw c.in-Some-Superseded.field-0-is at told.polled),
    )

pub returns-in-Some-UnknownTicket-clause-collects : goal.returns-in-Some-UnknownTicket-clause-collects
returns-in-Some-UnknownTicket-clause-collects g c = λ site body before waits.
    let told = c.in-Some-UnknownTicket.ensures in (
      refl,
      taken_over site body c.args.waiting before c.args.self.now.purse waits c.poll.new.self (record { others = told.others; directory = told.directory }) found.UnknownTicket (inr refl)
          (rw c.in-Some-UnknownTicket.field-0-is at told.polled),
    )
