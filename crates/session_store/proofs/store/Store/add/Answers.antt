use Rattle.std.proofs.Common.{◌≡◌, ◌∙◌, ◌==◌, ◌∷◌, [], ℕ, suc, List, get_or, map, ap, arith, if◌then◌else◌}
use Rattle.session_store.specs.Store.{of_session}
use Rattle.session_store.specs.declared.store.Store.{Store}
use Rattle.session_store.proofs.FitLemmas.{added_fit}
use Rattle.session_store.proofs.StoreLemmas.{counted_at, grown_stores}
use Rattle.session_store.proofs.store.Store.add.Goals as goal

pub returns-in-Ok-add-clause-adds : goal.returns-in-Ok-add-clause-adds
returns-in-Ok-add-clause-adds g c = λ told one stored waiting stores.
    let seen = g.D.Disk.seen in
    let time = g.D.Disk.time in
    let left = g.D.Disk.left in
    let old = c.args.self.now in
    let new : Store _ = record { journals = c.add.new.self; counts = c.set_at.new.counts } in
    let place = c.in-Some.place in
    let is_at : c.args.session ≡ suc place = omega (arith, c.in-Some.ensures.1, one) in
    let keeps = c.in-Ok-add.ensures.waits told stored waiting stores.file in
    let before = counted_at seen time left old new c.args.session place is_at stored waiting stores in
    let read = c.count_at.ensures ∙ ap (λ (l : List ℕ). get_or l place 0) c.as_slice.ensures.value in
    grown_stores seen time left old new c.args.session place is_at stored waiting stores (c.args.entry.now ∷ []) (omega arith) c.in-Some-checked_add.count
    (omega (arith, before, read, c.in-Some-checked_add.ensures))
    (λ other. c.set_at.ensures.reads other ∙ ap (λ (n : ℕ). if other == place then c.in-Some-checked_add.count else n) (c.in-Ok.ensures.reads other))
    (c.set_at.ensures.long ∙ c.in-Ok.ensures.long) keeps
    (added_fit waiting (map (of_session c.args.session) (c.args.entry.now ∷ [])) (c.know_numbers.ensures, tt) keeps.lengths)
