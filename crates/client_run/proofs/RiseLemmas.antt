-- What moves of a worker do to what it has seen, and to the counts of its network.
use Rattle.std.proofs.Common.{◌≡◌, ℕ, ◌<◌, ◌≤◌, inl, inr, List, [], ◌∷◌, ◌++◌, Some, None, refl, sym, ◌∙◌, ap, subst, arith, append_assoc, append-nil}
use Rattle.std.specs.Prelude.{◌≢◌, Option}
use Rattle.bosh_ports.specs.Faults.{HasRisen}
use Rattle.bosh_ports.proofs.FaultLemmas.{HasRisen-before}
use Rattle.parked_gate.specs.Histories.{Appends, StartsWith}
use Rattle.parked_gate.specs.Passes.{Calls, Known}
use Rattle.server_ports.specs.Counts.{Counts, HasFailed, added}
use Rattle.client_run.specs.declared.entry.Entry.{Entry}
use Rattle.client_run.specs.Working.{CountsFault, Move, Moves, Row, Setting, Side, Wire, answers, asks, copies, dials, fails_to_dial, looks, loses, more, none, refuses, retires, row_passed, wants_memory}

-- What was seen goes on.

pub starts_same : (xs : List Entry) → StartsWith xs xs
starts_same xs = ([], sym (append-nil xs))

pub starts_later : (xs ys zs : List Entry) → StartsWith ys xs → StartsWith zs ys → StartsWith zs xs
starts_later xs ys zs one two = (one.0 ++ two.0, two.1 ∙ ap (λ front. front ++ two.0) one.1 ∙ append_assoc xs one.0 two.0)

pub starts_by : (number : ℕ) (before after : List Entry) (made : Option Entry) → Appends (λ e. e.caller) number before made after → StartsWith after before
starts_by number before after None is = ([], is ∙ sym (append-nil before))
starts_by number before after (Some e) is = (e ∷ [], is.0)

pub calls_begin : {Says : List Entry → Option Entry → Type 0} (old new : Known Entry) → Calls (λ e. e.caller) Says old new → StartsWith new.seen old.seen
calls_begin old new c = starts_later old.seen c.before new.seen c.begins (starts_by old.number c.before new.seen c.made c.seen)

begins_moved : (setting : Setting) (s t : Side) → Move setting s t → StartsWith t.known.seen s.known.seen
begins_moved setting s t (dials events counts wire out begins ungiven kept counted) = starts_same s.known.seen
begins_moved setting s t (fails_to_dial counts out failed) = starts_same s.known.seen
begins_moved setting s t (asks new next now hand at called) = calls_begin s.known new called
begins_moved setting s t (looks new question answer asked) = asked.begins
begins_moved setting s t (copies new rid rids body hand asked) = asked.begins
begins_moved setting s t (wants_memory new call error called) = calls_begin s.known new called
begins_moved setting s t (answers new rid body answer old wire now answered hand out exchanges at called) = calls_begin s.known new called
begins_moved setting s t (loses rid body old wire events counts row hand out tries retired counted) = starts_same s.known.seen
begins_moved setting s t (refuses rid body old wire events status hand out was retired) = starts_same s.known.seen
begins_moved setting s t (retires old events out retired) = starts_same s.known.seen

pub moves_begin : (setting : Setting) (s t : Side) → Moves setting s t → StartsWith t.known.seen s.known.seen
moves_begin setting s t none = starts_same s.known.seen
moves_begin setting s t (more {t = mid} moves move) = starts_later s.known.seen mid.known.seen t.known.seen (moves_begin setting s mid moves) (begins_moved setting mid t move)

-- Counts never fall.

pub record NeverFalls (old new : Counts) : Type 0 where
  pub faults : old.faults ≤ new.faults
  pub dialled : old.dialled ≤ new.dialled

same_counts : (c : Counts) → NeverFalls c c
same_counts c = record { faults = omega arith; dialled = omega arith }

failed_counts : (old new : Counts) → HasFailed old new → NeverFalls old new
failed_counts old new failed = record { faults = failed.never_falls; dialled = subst (λ c. old.dialled ≤ c.dialled) (sym failed.others) (omega arith) }

dialled_counts : (old new : Counts) → new ≡ record old { dialled = added old.dialled 1 } → NeverFalls old new
dialled_counts old new is = subst (NeverFalls old) (sym is) (record { faults = omega arith; dialled = omega arith })

fault_counts : (old new : Counts) (row later : Row) → CountsFault old row new later → NeverFalls old new
fault_counts old new row later (inl fault) = failed_counts old new fault.0
fault_counts old new row later (inr same) = subst (NeverFalls old) (sym same.0) (same_counts old)

pub counts_moved : (setting : Setting) (s t : Side) → Move setting s t → NeverFalls s.counts t.counts
counts_moved setting s t (dials events counts wire out begins ungiven kept counted) = dialled_counts s.counts counts counted
counts_moved setting s t (fails_to_dial counts out failed) = failed_counts s.counts counts failed
counts_moved setting s t (asks new next now hand at called) = same_counts s.counts
counts_moved setting s t (looks new question answer asked) = same_counts s.counts
counts_moved setting s t (copies new rid rids body hand asked) = same_counts s.counts
counts_moved setting s t (wants_memory new call error called) = same_counts s.counts
counts_moved setting s t (answers new rid body answer old wire now answered hand out exchanges at called) = same_counts s.counts
counts_moved setting s t (loses rid body old wire events counts row hand out tries retired counted) = fault_counts s.counts counts s.row row counted
counts_moved setting s t (refuses rid body old wire events status hand out was retired) = same_counts s.counts
counts_moved setting s t (retires old events out retired) = same_counts s.counts

falls_later : (a b c : Counts) → NeverFalls a b → NeverFalls b c → NeverFalls a c
falls_later a b c one two = record { faults = omega (arith, one.faults, two.faults); dialled = omega (arith, one.dialled, two.dialled) }

pub moves_count : (setting : Setting) (s t : Side) → Moves setting s t → NeverFalls s.counts t.counts
moves_count setting s t none = same_counts s.counts
moves_count setting s t (more {t = mid} moves move) = falls_later s.counts mid.counts t.counts (moves_count setting s mid moves) (counts_moved setting mid t move)

-- Faults in a row were counted.

no_fault : (later row : Row) → later ≡ row_passed row → 0 < later.faults → ⊥
no_fault later row is some = omega (arith, some, ap (λ r. r.faults) is)

risen_by : (first old new : Counts) (row later : Row) → NeverFalls first old → (0 < row.faults → HasRisen first.faults old.faults) → CountsFault old row new later → 0 < later.faults → HasRisen first.faults new.faults
risen_by first old new row later falls before (inl fault) some = HasRisen-before first.faults old.faults new.faults falls.faults fault.0.never_falls fault.0.risen
risen_by first old new row later falls before (inr same) some = absurd (no_fault later row same.1 some)

risen_moved : (setting : Setting) (s mid t : Side) → Moves setting s mid → Move setting mid t → (0 < mid.row.faults → HasRisen s.counts.faults mid.counts.faults) → 0 < t.row.faults → HasRisen s.counts.faults t.counts.faults
risen_moved setting s mid t moves (dials events counts wire out begins ungiven kept counted) before some = subst (λ c. HasRisen s.counts.faults c.faults) (sym counted) (before some)
risen_moved setting s mid t moves (fails_to_dial counts out failed) before some = HasRisen-before s.counts.faults mid.counts.faults counts.faults (moves_count setting s mid moves).faults failed.never_falls failed.risen
risen_moved setting s mid t moves (asks new next now hand at called) before some = absurd (omega (arith, some))
risen_moved setting s mid t moves (looks new question answer asked) before some = before some
risen_moved setting s mid t moves (copies new rid rids body hand asked) before some = absurd (omega (arith, some))
risen_moved setting s mid t moves (wants_memory new call error called) before some = before some
risen_moved setting s mid t moves (answers new rid body answer old wire now answered hand out exchanges at called) before some = absurd (omega (arith, some))
risen_moved setting s mid t moves (loses rid body old wire events counts row hand out tries retired counted) before some = risen_by s.counts mid.counts counts mid.row row (moves_count setting s mid moves) before counted some
risen_moved setting s mid t moves (refuses rid body old wire events status hand out was retired) before some = absurd (omega (arith, some))
risen_moved setting s mid t moves (retires old events out retired) before some = before some

pub row_risen : (setting : Setting) (s t : Side) → Moves setting s t → s.row.faults ≡ 0 → 0 < t.row.faults → HasRisen s.counts.faults t.counts.faults
row_risen setting s t none zero some = absurd (omega (arith, zero, some))
row_risen setting s t (more {t = mid} moves move) zero some = risen_moved setting s mid t moves move (λ before. row_risen setting s mid moves zero before) some

-- A link that is out was dialled.

not_both : {X : Type 0} (o : Option Wire) (wire : Wire) → o ≡ None → o ≡ Some wire → X
not_both None wire out some = absurd (cc)
not_both (Some w) wire out some = absurd (cc)

dialled_moved : (setting : Setting) (s mid t : Side) → Moves setting s mid → Move setting mid t → ((wire : Wire) → mid.wire ≡ Some wire → HasRisen s.counts.dialled mid.counts.dialled)
    → (wire : Wire) → t.wire ≡ Some wire → HasRisen s.counts.dialled t.counts.dialled
dialled_moved setting s mid t moves (dials events counts wire out begins ungiven kept counted) before w some =
    subst (λ c. HasRisen s.counts.dialled c.dialled) (sym counted) (λ small. omega (arith, small, (moves_count setting s mid moves).dialled))
dialled_moved setting s mid t moves (fails_to_dial counts out failed) before w some = not_both mid.wire w out some
dialled_moved setting s mid t moves (asks new next now hand at called) before w some = before w some
dialled_moved setting s mid t moves (looks new question answer asked) before w some = before w some
dialled_moved setting s mid t moves (copies new rid rids body hand asked) before w some = before w some
dialled_moved setting s mid t moves (wants_memory new call error called) before w some = before w some
dialled_moved setting s mid t moves (answers new rid body answer old wire now answered hand out exchanges at called) before w some = before old out
dialled_moved setting s mid t moves (loses rid body old wire events counts row hand out tries retired counted) before w some = not_both None w refl some
dialled_moved setting s mid t moves (refuses rid body old wire events status hand out was retired) before w some = not_both None w refl some
dialled_moved setting s mid t moves (retires old events out retired) before w some = not_both None w refl some

pub dialled_risen : (setting : Setting) (s t : Side) → Moves setting s t → s.wire ≡ None → (wire : Wire) → t.wire ≡ Some wire → HasRisen s.counts.dialled t.counts.dialled
dialled_risen setting s t none out w some = not_both s.wire w out some
dialled_risen setting s t (more {t = mid} moves move) out w some = dialled_moved setting s mid t moves move (dialled_risen setting s mid moves out) w some

-- What refused had another status than 200.

-- where there is a refusal in a row
abbrev pub IsOther : Row → Type 0
IsOther row = 0 < row.refusals → row.status ≢ 200

other_counted : (counts later : Counts) (row next : Row) → CountsFault counts row later next → IsOther row → IsOther next
other_counted counts later row next (inl fault) other = subst IsOther (sym fault.1) other
other_counted counts later row next (inr same) other = subst IsOther (sym same.1) other

other_moved : (setting : Setting) (s t : Side) → Move setting s t → IsOther s.row → IsOther t.row
other_moved setting s t (dials events counts wire out begins ungiven kept counted) other = other
other_moved setting s t (fails_to_dial counts out failed) other = other
other_moved setting s t (asks new next now hand at called) other = λ some. absurd (omega (arith, some))
other_moved setting s t (looks new question answer asked) other = other
other_moved setting s t (copies new rid rids body hand asked) other = λ some. absurd (omega (arith, some))
other_moved setting s t (wants_memory new call error called) other = other
other_moved setting s t (answers new rid body answer old wire now answered hand out exchanges at called) other = λ some. absurd (omega (arith, some))
other_moved setting s t (loses rid body old wire events counts row hand out tries retired counted) other = other_counted s.counts counts s.row row counted other
other_moved setting s t (refuses rid body old wire events status hand out was retired) other = λ some. was.responds.2.0
other_moved setting s t (retires old events out retired) other = other

pub row_other : (setting : Setting) (s t : Side) → Moves setting s t → IsOther s.row → IsOther t.row
row_other setting s t none other = other
row_other setting s t (more {t = mid} moves move) other = other_moved setting mid t move (row_other setting s mid moves other)
