use Rattle.std.proofs.Common.{ap, sym}
use Rattle.parked_gate.specs.Passes.{known}
use Rattle.session_pump.proofs.TurnLemmas.{alone_of, ok_so, on_line_of, on_ok, opened_line, opened_nowhere}
use Rattle.session_pump.proofs.pump.Pump.serve_held.Goals as goal

pub returns-in_default-clause-serves : goal.returns-in_default-clause-serves
returns-in_default-clause-serves g c =
    alone_of _ _ _ _ _ _ _ _ _ _ (ap known c.serve_alone.ensures.directory) c.get_mut.follows.holds-at-none (sym c.in_default.ensures.value) c.serve_alone.ensures.serves c.serve_alone.ensures.others

pub returns-clause-serves : goal.returns-clause-serves
returns-clause-serves g c =
    on_line_of _ _ _ _ _ _ _ _ _ _ _ _ _ (ap known c.serve_line.ensures.directory) (sym c.in-Some.ensures.value)
    (c.get_mut.follows.holds c.serve_line.new.line) c.serve_line.ensures.serves c.serve_line.ensures.others

pub returns-in_default-clause-opened : goal.returns-in_default-clause-opened
returns-in_default-clause-opened g c = on_ok _ (opened_nowhere c.args.number c.args.self.now.lines _ c.get_mut.follows.holds-at-none (sym c.in_default.ensures.value))

pub returns-clause-opened : goal.returns-clause-opened
returns-clause-opened g c =
    ok_so _ (λ opened. opened_line c.args.number c.args.self.now.lines (c.get_mut.follows.lender c.serve_line.new.line) _ _ (sym c.in-Some.ensures.value) (c.get_mut.follows.holds c.serve_line.new.line) opened) c.serve_line.ensures.opened
