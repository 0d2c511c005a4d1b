use Rattle.std.proofs.Common.{◌≡◌, List, [], true, subst, sym, ◌∙◌}
use Rattle.session_journal.specs.declared.entry.Entry.{Entry}
use Rattle.serve_journal.specs.Bringing.{are_finished}
use Rattle.serve_journal.proofs.BringingLemmas.{leaves_none}
use Rattle.serve_journal.proofs.bringing.let_ended_go.Goals as goal

pub returns-clause-any_moment : goal.returns-clause-any_moment
returns-clause-any_moment g c = λ told entries are stores.
    leaves_none g.D.Disk.time g.D.Disk.left entries c.args.store.now.journals.file.disk c.clear-2.new.self.journals.file.disk c.args.sessions.now.items are
    (subst (λ (l : List (List Entry)). are_finished l ≡ true) c.as_slice.ensures.value (sym c.are_finished.ensures ∙ c.if-not-are_finished.false))
    (c.clear-2.ensures.any_moment told entries [] stores)
