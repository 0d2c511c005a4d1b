use Rattle.std.proofs.Common.{◌∙◌, ◌++◌, ◌∷◌, [], Some, ap, refl}
use Rattle.parked_gate.specs.Passes.{gate_of}
use Rattle.session_table.specs.declared.entry.Entry.{Entry}
use Rattle.session_table.specs.declared.entry.Event.TheVariants as events
use Rattle.session_table.proofs.KeepingLemmas.{entered}
use Rattle.session_table.proofs.directory.Directory.enter.Goals as goal

pub invariant_of-self-2 : goal.invariant_of-self-2
invariant_of-self-2 c =
    let e : Entry = record { caller = c.args.caller; sid = c.in_ok-sid.sid; event = events.Opened c.of.result } in
    entered c.self.inside.sessions.entries c.self.inside.entries c.self.inside.openings c.self.invariant c.args.self.now c.self.view_is e c.args.session
    (ap (λ s. Some (s, gate_of c.of.result.value)) c.in_ok-sid.ensures ∙ ap (λ g. Some (c.args.session.sid, gate_of g)) (c.of.ensures ∙ c.gate.ensures))
    refl c.requires.number c.requires.sid c.requires.not_spent
    c.insert.new.self.entries c.in_ok-insert.ensures.entries
    c.add.new.self c.add.ensures
