use Rattle.std.proofs.Common.{subst, sym}
use Rattle.parked_gate.specs.Passes.{Calls, known}
use Rattle.session_table.specs.declared.calls.NewSession.TheVariants as news
use Rattle.session_table.specs.Purses.{OpensInto, OpensOrNot}
use Rattle.session_table.proofs.HoldingLemmas.{on_err_by, opened_unheld}
use Rattle.session_table.proofs.PassLemmas.{says_so}
use Rattle.session_table.proofs.PurseLemmas.{opens_by, opens_into, others_beside}
use Rattle.session_table.proofs.purse.Purse.open.Goals as goal

pub returns-in_ok-number-in-Opened-clause-opened : goal.returns-in_ok-number-in-Opened-clause-opened
returns-in_ok-number-in-Opened-clause-opened g c =
    let told = c.in_ok-number-in-Opened in
    let opened = c.in-Opened.field-0 in
    let sessions = c.hold.new.self.sessions in
    subst (λ pass. Calls (λ e. e.caller) (λ before made. OpensInto before c.args.opening (news.Opened told.number opened.answer) sessions made) (known c.args.self.now.directory) (known pass))
    (sym told.ensures.directory)
    (says_so _ _ _ _
    (λ before made said. opens_into before c.args.opening sessions told.number opened.session opened.answer made told.ensures.number told.ensures.held
    (opens_by before c.args.opening c.in_ok-reply.reply _ made c.in-Opened.is said))
    c.in_ok-reply.ensures.called)

pub returns-in_ok-number-in-Opened-clause-others : goal.returns-in_ok-number-in-Opened-clause-others
returns-in_ok-number-in-Opened-clause-others g c =
    let told = c.in_ok-number-in-Opened in
    others_beside c.args.self.now.sessions c.hold.new.self.sessions told.number c.in-Opened.field-0.session.number told.ensures.number told.ensures.others

pub returns-in_err-number-in-Opened-clause-err : goal.returns-in_err-number-in-Opened-clause-err
returns-in_err-number-in-Opened-clause-err g c =
    let told = c.in_err-number-in-Opened in
    on_err_by c.from_residual-in_err-number-in-Opened.result _ (
      told.ensures.err,
      subst (λ pass. Calls (λ e. e.caller) (λ before made. OpensOrNot before c.args.opening made) (known c.args.self.now.directory) (known pass))
          (sym told.ensures.directory)
          (says_so _ _ _ _
          (λ before made said. opened_unheld before c.args.opening c.in-Opened.field-0 made (opens_by before c.args.opening c.in_ok-reply.reply _ made c.in-Opened.is said))
          c.in_ok-reply.ensures.called),
    )
