use Rattle.std.proofs.Common.{sym}
use Rattle.session_table.proofs.HoldingLemmas.{held_otherwise, nothing_held, numbered_so, unnumbered}
use Rattle.session_table.proofs.PurseLemmas.{holds_named}
use Rattle.session_table.proofs.purse.Purse.held_as.Goals as goal

pub returns-then-eq-clause-held : goal.returns-then-eq-clause-held
returns-then-eq-clause-held c = holds_named _ c.in-Some.number _ c.as_slice.result.now c.in-Some-get.session.now c.eq.result (sym c.in-Some-get.ensures.value) c.as_slice.ensures c.eq.ensures c.if-eq.true

pub returns-in_default-clause-not_held : goal.returns-in_default-clause-not_held
returns-in_default-clause-not_held c = unnumbered c.args.self.now.sessions c.args.sid.now c.number_in.result c.in_default.is c.number_in.ensures

pub returns-in_default-get-clause-not_held : goal.returns-in_default-get-clause-not_held
returns-in_default-get-clause-not_held c =
    nothing_held c.args.self.now.sessions c.args.sid.now c.number_in.result c.in-Some.number c.in-Some.is c.number_in.ensures (sym c.in_default-get.ensures.value)

pub returns-clause-not_held : goal.returns-clause-not_held
returns-clause-not_held c =
    held_otherwise c.args.self.now.sessions c.args.sid.now c.number_in.result c.in-Some.number c.in-Some.is c.number_in.ensures c.in-Some-get.session.now c.as_slice.result.now c.eq.result
    (sym c.in-Some-get.ensures.value) c.as_slice.ensures c.eq.ensures c.if-eq.false

pub returns-then-eq-clause-of_name : goal.returns-then-eq-clause-of_name
returns-then-eq-clause-of_name c = numbered_so c.args.self.now.sessions c.args.sid.now c.number_in.result c.in-Some.number c.in-Some.is c.number_in.ensures
