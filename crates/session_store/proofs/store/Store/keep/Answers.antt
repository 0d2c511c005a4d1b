use Rattle.std.proofs.Common.{◌≡◌, ◌∙◌, ℕ, List, length, drop, get_or, map, sym, ap, arith}
use Rattle.std.proofs.lemmas.Bool.{eqb-false, eqb-true}
use Rattle.session_store.specs.Store.{of_session}
use Rattle.session_store.proofs.FitLemmas.{added_fit}
use Rattle.session_store.proofs.StoreLemmas.{more_stores, nothing_fresh}
use Rattle.session_store.proofs.store.Store.keep.Goals as goal

pub returns-then-is_empty-clause-keeps : goal.returns-then-is_empty-clause-keeps
returns-then-is_empty-clause-keeps g c = λ told one stored waiting stores.
    nothing_fresh g.D.Disk.seen g.D.Disk.time g.D.Disk.left c.args.self.now c.args.self.now c.args.session c.in-Some.place (omega (arith, c.in-Some.ensures.1, one))
    stored waiting stores c.args.journal.now c.behind-fresh.result.now
    (c.behind-fresh.ensures ∙ ap (λ (n : ℕ). drop n c.args.journal.now) (c.count_at.ensures ∙ ap (λ (l : List ℕ). get_or l c.in-Some.place 0) c.as_slice.ensures.value))
    (eqb-true (length c.behind-fresh.result.now) 0 (sym c.if-is_empty.ensures))

pub returns-clause-keeps : goal.returns-clause-keeps
returns-clause-keeps g c = λ told one stored waiting stores.
    let some : (length c.behind-fresh.result.now ≡ 0) → ⊥ = eqb-false (length c.behind-fresh.result.now) 0 (sym c.if-is_empty.ensures) in
    more_stores g.D.Disk.seen g.D.Disk.time g.D.Disk.left c.args.self.now (record { journals = c.add_all.new.journals; counts = c.set_count.new.counts }) c.args.session c.in-Some.place
    (omega (arith, c.in-Some.ensures.1, one))
    stored waiting stores c.args.journal.now c.behind-fresh.result.now
    (c.behind-fresh.ensures ∙ ap (λ (n : ℕ). drop n c.args.journal.now) (c.count_at.ensures ∙ ap (λ (l : List ℕ). get_or l c.in-Some.place 0) c.as_slice.ensures.value))
    (omega (arith, some)) c.in_ok-set_count.ensures.reads c.in_ok-set_count.ensures.long (c.in_ok-add_all.ensures.waits told stored waiting stores.file)
    (added_fit waiting (map (of_session c.args.session) c.behind-fresh.result.now) c.in_ok-add_all.ensures.numbers (c.in_ok-add_all.ensures.waits told stored waiting stores.file).lengths)
