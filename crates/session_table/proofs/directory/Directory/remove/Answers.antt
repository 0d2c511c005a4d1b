use Rattle.std.proofs.Common.{◌∙◌, ◌++◌, ◌∷◌, [], ap, refl, sym, Some}
use Rattle.session_table.specs.declared.entry.Entry.{Entry}
use Rattle.session_table.specs.declared.entry.Event.TheVariants as events
use Rattle.session_table.specs.Keeping.{session_of}
use Rattle.session_table.proofs.KeepingLemmas.{found_live, its_name, reached, removed_here}
use Rattle.session_table.proofs.directory.Directory.remove.Goals as goal

pub unreachable-requires : goal.unreachable-requires
unreachable-requires c = reached c.self.inside.sessions.entries c.self.inside.entries c.self.inside.openings c.self.invariant c.args.self.now c.self.view_is c.args.sid.now c.in-Some.number c.in-Some.ensures (sym c.in_default-get.ensures.value)

pub invariant_of-self : goal.invariant_of-self
invariant_of-self c =
    let e : Entry = record { caller = c.args.caller; sid = c.in_ok-sid.sid; event = events.Removed } in
    removed_here c.self.inside.sessions.entries c.self.inside.entries c.self.inside.openings c.self.invariant c.args.self.now c.self.view_is c.args.sid.now c.in-Some.number c.in-Some.ensures c.in-Some-get.session.now (sym c.in-Some-get.ensures.value) e refl
    (ap Some (c.in_ok-sid.ensures ∙ its_name c.self.inside.sessions.entries c.self.inside.entries c.self.inside.openings c.self.invariant c.args.self.now c.self.view_is c.args.sid.now c.in-Some.number c.in-Some.ensures c.in-Some-get.session.now (sym c.in-Some-get.ensures.value)))
    c.remove.new.self.entries c.remove.ensures.entries
    c.add.new.self c.add.ensures

pub returns-clause-removed : goal.returns-clause-removed
returns-clause-removed c =
    let e : Entry = record { caller = c.args.caller; sid = c.in_ok-sid.sid; event = events.Removed } in
    record {
      session = session_of c.in-Some-get.session.now;
      live = found_live c.self.inside.sessions.entries c.self.inside.entries c.self.inside.openings c.self.invariant c.args.self.now c.self.view_is c.args.sid.now c.in-Some.number c.in-Some.ensures c.in-Some-get.session.now (sym c.in-Some-get.ensures.value);
      entry = e;
      appended = c.add.ensures ∙ ap (λ l. l ++ e ∷ []) c.self.view_is;
      caller_is = refl;
      tells = ap Some (c.in_ok-sid.ensures ∙ its_name c.self.inside.sessions.entries c.self.inside.entries c.self.inside.openings c.self.invariant c.args.self.now c.self.view_is c.args.sid.now c.in-Some.number c.in-Some.ensures c.in-Some-get.session.now (sym c.in-Some-get.ensures.value));
    }
