use Rattle.std.proofs.Common.{subst, sym, ◌∙◌}
use Rattle.parked_gate.specs.Passes.{Grows, known}
use Rattle.session_table.specs.Purses.{StaysOrComes}
use Rattle.session_table.proofs.HoldingLemmas.{held_comes, held_found}
use Rattle.session_table.proofs.PassLemmas.{enters_nothing, grows_by_call}
use Rattle.session_table.proofs.purse.Purse.ask.Goals as goal

pub returns-in_ok-number-in-Some-clause-found : goal.returns-in_ok-number-in-Some-clause-found
returns-in_ok-number-in-Some-clause-found g c =
    let told = c.in_ok-number-in-Some in
    held_found c.args.sid.now c.from_vec-sid.result c.in_ok-reply.reply c.in-Some.session _ _ c.args.self.now.sessions c.hold.new.self.sessions told.number
    c.call.ensures.legal c.in_ok-reply.ensures.called (sym c.found_in.ensures ∙ c.in-Some.is) (c.from_vec-sid.ensures ∙ c.in_ok-from_slice.ensures.items)
    told.ensures.number told.ensures.held told.ensures.others c.requires.not_held

pub returns-in_ok-number-in-Some-clause-kept : goal.returns-in_ok-number-in-Some-clause-kept
returns-in_ok-number-in-Some-clause-kept g c =
    let told = c.in_ok-number-in-Some in
    subst (λ pass. StaysOrComes (known pass).seen c.args.self.now.sessions c.hold.new.self.sessions told.number c.args.sid.now) (sym told.ensures.directory)
    (held_comes c.args.sid.now c.from_vec-sid.result c.in_ok-reply.reply c.in-Some.session _ _ c.args.self.now.sessions c.hold.new.self.sessions told.number
    c.call.ensures.legal c.in_ok-reply.ensures.called (sym c.found_in.ensures ∙ c.in-Some.is) (c.from_vec-sid.ensures ∙ c.in_ok-from_slice.ensures.items)
    told.ensures.number told.ensures.held c.requires.not_held)

pub returns-in_ok-number-in-Some-clause-grows : goal.returns-in_ok-number-in-Some-clause-grows
returns-in_ok-number-in-Some-clause-grows g c =
    subst (λ d. Grows (known c.args.self.now.directory) (known d)) (sym c.in_ok-number-in-Some.ensures.directory)
    (grows_by_call _ _ _ c.call.ensures.number (λ before made said. enters_nothing before c.from_vec-sid.result c.call.result made said) c.call.ensures.called)
