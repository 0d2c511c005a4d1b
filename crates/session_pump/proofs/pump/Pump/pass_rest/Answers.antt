use Rattle.std.proofs.Common.{ap, sym}
use Rattle.parked_gate.specs.Passes.{known}
use Rattle.session_pump.proofs.TurnLemmas.{alone_of, on_line_of, was_opened}
use Rattle.session_pump.proofs.TurnedLemmas.{still_held}
use Rattle.session_pump.proofs.pump.Pump.pass_rest.Goals as goal

pub returns-in_default-clause-passes : goal.returns-in_default-clause-passes
returns-in_default-clause-passes g c =
    alone_of _ _ _ _ _ _ _ _ _ _ (ap known c.drop_all.ensures.directory) c.get_mut.follows.holds-at-none (sym c.in_default.ensures.value) c.drop_all.ensures.takes c.drop_all.ensures.others

pub returns-clause-passes : goal.returns-clause-passes
returns-clause-passes g c =
    on_line_of _ _ _ _ _ _ _ _ _ _ _ _ _ (ap known c.pass_all.ensures.directory) (sym c.in-Some.ensures.value)
    (c.get_mut.follows.holds c.pass_all.new.line) c.pass_all.ensures.passes c.pass_all.ensures.others

pub pass_all-requires-clause-opened : goal.pass_all-requires-clause-opened
pass_all-requires-clause-opened g c = was_opened c.args.number c.args.self.now.lines _ c.requires.opened (sym c.in-Some.ensures.value)

pub returns-clause-held : goal.returns-clause-held
returns-clause-held g c = still_held _ _ _ _ c.pass_all.ensures.passes
