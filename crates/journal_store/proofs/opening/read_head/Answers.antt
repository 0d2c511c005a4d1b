use Rattle.std.proofs.Common.{◌-◌, ℕ, List, length, drop, sym, ◌∙◌, ap, subst, arith, length-drop}
use Rattle.std.proofs.lemmas.List.{length-take-le}
use Rattle.journal_store.specs.Opening.{SaysHead}
use Rattle.journal_store.proofs.OpeningLemmas.{five, head_at}
use Rattle.journal_store.proofs.RecordLemmas.{no_record_short}
use Rattle.journal_store.proofs.opening.read_head.Goals as goal

pub returns-then-room-lt-HEAD-clause-head : goal.returns-then-room-lt-HEAD-clause-head
returns-then-room-lt-HEAD-clause-head g c = λ told.
    let file = g.D.Disk.seen c.args.disk.now in
    let within = c.requires told in
    no_record_short (drop c.args.at file) (omega (arith, within.1, length-drop c.args.at file, c.saturating_sub-room.ensures, c.if-room-lt-HEAD.true))

pub returns-in-Done-clause-head : goal.returns-in-Done-clause-head
returns-in-Done-clause-head g c = λ told.
    let file = g.D.Disk.seen c.args.disk.now in
    let within = c.requires told in
    let bytes = c.read.new.into in
    let read = c.read.ensures.bytes told c.in-Done.is in
    head_at (g.D.Disk.seen c.args.disk.now) c.args.at (c.saturating_sub-room.result - 5) c.head_of.result
    (omega (arith, within.0, within.1, c.saturating_sub-room.ensures, c.if-room-lt-HEAD.false))
    (subst (λ (l : List ℕ). SaysHead l (c.saturating_sub-room.result - 5) c.head_of.result) (sym (five bytes (ap length read ∙ length-take-le 5 (drop c.args.at file) (omega (arith, within.0, within.1, length-drop c.args.at file, c.saturating_sub-room.ensures, c.if-room-lt-HEAD.false)))) ∙ read) c.head_of.ensures)
