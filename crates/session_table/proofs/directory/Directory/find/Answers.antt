use Rattle.std.proofs.Common.{◌∙◌, ap, sym, Some}
use Rattle.session_table.proofs.KeepingLemmas.{found_live, keeps_same, reached, same_session}
use Rattle.session_table.proofs.directory.Directory.find.Goals as goal

pub unreachable-requires : goal.unreachable-requires
unreachable-requires c = reached c.self.inside.sessions.entries c.self.inside.entries c.self.inside.openings c.self.invariant c.args.self.now c.self.view_is c.args.sid.now c.in-Some.number c.in-Some.ensures (sym c.in_default-get_mut.ensures.value)

pub invariant_of-self : goal.invariant_of-self
invariant_of-self c =
    keeps_same c.self.inside.sessions.entries c.self.inside.entries c.self.inside.openings c.self.invariant _ c.in-Some-get_mut.session.now c.split.new.self _ (sym c.in-Some-get_mut.ensures.value)
    (same_session _ _ c.split.ensures.same.of_same) (c.get_mut.follows.holds c.split.new.self).0

pub invariant_of-self-2 : goal.invariant_of-self-2
invariant_of-self-2 c =
    keeps_same c.self.inside.sessions.entries c.self.inside.entries c.self.inside.openings c.self.invariant _ c.in-Some-get_mut.session.now c.split.new.self _ (sym c.in-Some-get_mut.ensures.value)
    (same_session _ _ c.split.ensures.same.of_same) (c.get_mut.follows.holds c.split.new.self).0

pub returns-clause-found : goal.returns-clause-found
returns-clause-found c = record {
  live = found_live c.self.inside.sessions.entries c.self.inside.entries c.self.inside.openings c.self.invariant c.args.self.now c.self.view_is c.args.sid.now c.in-Some.number c.in-Some.ensures c.in-Some-get_mut.session.now (sym c.in-Some-get_mut.ensures.value)
      ∙ ap Some (sym (same_session c.in-Some-get_mut.session.now c.in_ok-handle.handle c.in_ok-handle.ensures.split.of_same));
  mine = c.in_ok-handle.ensures.split.mine;
}
