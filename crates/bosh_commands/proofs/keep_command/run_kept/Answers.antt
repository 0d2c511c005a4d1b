use Rattle.std.proofs.Common.{◌∙◌, ℕ, refl, sym, subst, arith}
use Rattle.session_store.proofs.WholeLemmas.{not_damaged}
use Rattle.bosh_commands.specs.Keep.{disk_of, file_in, status_of}
use Rattle.bosh_commands.proofs.KeepLemmas.{damages, left_by_script, left_closed, left_damaged, none_damaged, of_damage, of_script, other_words, script_apart, these_words, unasked}
use Rattle.bosh_commands.proofs.keep_command.run_kept.Goals as goal

-- other words

pub returns-then-not-is_keep-clause-statuses : goal.returns-then-not-is_keep-clause-statuses
returns-then-not-is_keep-clause-statuses g c = (1, omega arith, refl)

pub returns-then-not-is_keep-clause-wrong_words : goal.returns-then-not-is_keep-clause-wrong_words
returns-then-not-is_keep-clause-wrong_words g c = other_words (file_in c.args.words.now) 2 (sym c.is_keep.ensures ∙ c.if-not-is_keep.true) refl

pub returns-then-not-is_keep-clause-crash : goal.returns-then-not-is_keep-clause-crash
returns-then-not-is_keep-clause-crash g c = λ told only.
    left_closed g.D.Disk.seen g.D.Disk.time g.D.Disk.left (g.D.Disk.seen c.args.disk) c.args.disk c.args.disk (g.K.Sink.given c.args.sink.now) (g.K.Sink.given c.args.sink.now) refl
    (unasked g.D.Disk.seen g.D.Disk.time g.D.Disk.left c.args.disk only) (g.S.Source.left c.args.source.now)

pub returns-then-not-is_keep-clause-undamaged : goal.returns-then-not-is_keep-clause-undamaged
returns-then-not-is_keep-clause-undamaged g c = λ told only.
    none_damaged g.D.Disk.seen g.D.Disk.time g.D.Disk.left (g.D.Disk.seen c.args.disk) c.args.disk c.args.disk (g.K.Sink.given c.args.sink.now) (g.K.Sink.given c.args.sink.now) (g.S.Source.left c.args.source.now)
    (returns-then-not-is_keep-clause-crash g c told only)

-- a file of journals

pub returns-in-Store-clause-statuses : goal.returns-in-Store-clause-statuses
returns-in-Store-clause-statuses g c = of_script (status_of c.keep.result) c.keep.ensures.statuses

pub returns-in-Store-clause-wrong_words : goal.returns-in-Store-clause-wrong_words
returns-in-Store-clause-wrong_words g c =
    these_words (file_in c.args.words.now) (status_of c.keep.result) (sym c.is_keep.ensures ∙ c.if-not-is_keep.false) (script_apart (status_of c.keep.result) c.keep.ensures.statuses).0

pub returns-in-Store-clause-unread : goal.returns-in-Store-clause-unread
returns-in-Store-clause-unread g c = λ is. absurd ((script_apart (status_of c.keep.result) c.keep.ensures.statuses).0 is)

pub returns-in-Store-clause-unwritten : goal.returns-in-Store-clause-unwritten
returns-in-Store-clause-unwritten g c = λ is. absurd ((script_apart (status_of c.keep.result) c.keep.ensures.statuses).0 is)

pub returns-in-Store-clause-unstored : goal.returns-in-Store-clause-unstored
returns-in-Store-clause-unstored g c = λ is. absurd ((script_apart (status_of c.keep.result) c.keep.ensures.statuses).0 is)

pub returns-in-Store-clause-done : goal.returns-in-Store-clause-done
returns-in-Store-clause-done g c = λ told is.
    let has = c.in-Store.ensures.brings told in
    record { entries = has.0; are = has.1; journals = has.3; logs = c.in-Store.sessions.items; are_logs = has.5; gives = c.keep.ensures.done is }

pub returns-in-Store-clause-bad : goal.returns-in-Store-clause-bad
returns-in-Store-clause-bad g c = λ told is.
    let has = c.in-Store.ensures.brings told in
    record { entries = has.0; are = has.1; journals = has.3; logs = c.in-Store.sessions.items; are_logs = has.5; gives = c.keep.ensures.bad is }

pub returns-in-Store-clause-damaged : goal.returns-in-Store-clause-damaged
returns-in-Store-clause-damaged g c = λ told is. absurd ((script_apart (status_of c.keep.result) c.keep.ensures.statuses).1 is)

pub returns-in-Store-clause-unrun : goal.returns-in-Store-clause-unrun
returns-in-Store-clause-unrun g c = λ told at damaged.
    let has = c.in-Store.ensures.brings told in
    absurd (not_damaged (g.D.Disk.seen c.args.disk) has.0 at has.1 has.2 has.3 damaged)

pub returns-in-Store-clause-crash : goal.returns-in-Store-clause-crash
returns-in-Store-clause-crash g c = λ told only.
    let has = c.in-Store.ensures.brings told in
    left_by_script g.D.Disk.seen g.D.Disk.time g.D.Disk.left (g.D.Disk.seen c.args.disk) c.args.disk (disk_of c.keep.result) (g.K.Sink.given c.args.sink.now) (g.K.Sink.given c.keep.new.sink)
    c.in-Store.store.journals.file.disk c.in-Store.sessions.items c.in-Store.store has.0 has.1 has.2 has.3 has.4 has.5 (c.in-Store.ensures.any_moment told only) (g.S.Source.left c.args.source.now)
    (c.keep.ensures.crash told)

pub returns-in-Store-clause-undamaged : goal.returns-in-Store-clause-undamaged
returns-in-Store-clause-undamaged g c = λ told only.
    none_damaged g.D.Disk.seen g.D.Disk.time g.D.Disk.left (g.D.Disk.seen c.args.disk) c.args.disk (disk_of c.keep.result) (g.K.Sink.given c.args.sink.now) (g.K.Sink.given c.keep.new.sink) (g.S.Source.left c.args.source.now)
    (returns-in-Store-clause-crash g c told only)

pub returns-in-Store-clause-store_fault : goal.returns-in-Store-clause-store_fault
returns-in-Store-clause-store_fault g c = λ is.
    subst (λ (n : ℕ). Rattle.bosh_ports.specs.Faults.HasRisen n (g.D.Disk.faults (disk_of c.keep.result))) c.in-Store.ensures.faults (c.keep.ensures.store_fault is)

pub returns-in-Store-clause-store_counts : goal.returns-in-Store-clause-store_counts
returns-in-Store-clause-store_counts g c = λ apart. c.keep.ensures.store_counts apart ∙ c.in-Store.ensures.faults

-- a damaged one

pub returns-in-Damaged-clause-statuses : goal.returns-in-Damaged-clause-statuses
returns-in-Damaged-clause-statuses g c = of_damage c.tell_damaged.result c.tell_damaged.ensures.statuses

pub returns-in-Damaged-clause-wrong_words : goal.returns-in-Damaged-clause-wrong_words
returns-in-Damaged-clause-wrong_words g c =
    these_words (file_in c.args.words.now) c.tell_damaged.result (sym c.is_keep.ensures ∙ c.if-not-is_keep.false) (damages c.tell_damaged.result c.tell_damaged.ensures.statuses).wrong

pub returns-in-Damaged-clause-unwritten : goal.returns-in-Damaged-clause-unwritten
returns-in-Damaged-clause-unwritten g c = λ is. absurd ((damages c.tell_damaged.result c.tell_damaged.ensures.statuses).wrong is)

pub returns-in-Damaged-clause-unstored : goal.returns-in-Damaged-clause-unstored
returns-in-Damaged-clause-unstored g c = λ is. absurd ((damages c.tell_damaged.result c.tell_damaged.ensures.statuses).wrong is)

pub returns-in-Damaged-clause-done : goal.returns-in-Damaged-clause-done
returns-in-Damaged-clause-done g c = λ told is. absurd ((damages c.tell_damaged.result c.tell_damaged.ensures.statuses).done is)

pub returns-in-Damaged-clause-bad : goal.returns-in-Damaged-clause-bad
returns-in-Damaged-clause-bad g c = λ told is. absurd ((damages c.tell_damaged.result c.tell_damaged.ensures.statuses).bad is)

pub returns-in-Damaged-clause-damaged : goal.returns-in-Damaged-clause-damaged
returns-in-Damaged-clause-damaged g c = λ told is. (c.in-Damaged.at, c.in-Damaged.ensures.brings told, c.tell_damaged.ensures.given is)

pub returns-in-Damaged-clause-crash : goal.returns-in-Damaged-clause-crash
returns-in-Damaged-clause-crash g c = λ told only.
    left_damaged g.D.Disk.seen g.D.Disk.time g.D.Disk.left (g.D.Disk.seen c.args.disk) c.args.disk c.in-Damaged.disk (g.K.Sink.given c.args.sink.now) (g.K.Sink.given c.tell_damaged.new.sink) c.in-Damaged.at
    (c.in-Damaged.ensures.brings told) (g.S.Source.left c.args.source.now)

pub returns-in-Damaged-clause-undamaged : goal.returns-in-Damaged-clause-undamaged
returns-in-Damaged-clause-undamaged g c = λ told only.
    none_damaged g.D.Disk.seen g.D.Disk.time g.D.Disk.left (g.D.Disk.seen c.args.disk) c.args.disk c.in-Damaged.disk (g.K.Sink.given c.args.sink.now) (g.K.Sink.given c.tell_damaged.new.sink) (g.S.Source.left c.args.source.now)
    (returns-in-Damaged-clause-crash g c told only)

pub returns-in-Damaged-clause-read_fault : goal.returns-in-Damaged-clause-read_fault
returns-in-Damaged-clause-read_fault g c = λ is. absurd ((damages c.tell_damaged.result c.tell_damaged.ensures.statuses).read is)

pub returns-in-Damaged-clause-store_fault : goal.returns-in-Damaged-clause-store_fault
returns-in-Damaged-clause-store_fault g c = λ is. absurd ((damages c.tell_damaged.result c.tell_damaged.ensures.statuses).store is)

-- one that wasn't opened

pub returns-in-Failed-clause-statuses : goal.returns-in-Failed-clause-statuses
returns-in-Failed-clause-statuses g c = (6, omega arith, refl)

pub returns-in-Failed-clause-wrong_words : goal.returns-in-Failed-clause-wrong_words
returns-in-Failed-clause-wrong_words g c = these_words (file_in c.args.words.now) 11 (sym c.is_keep.ensures ∙ c.if-not-is_keep.false) (λ is. omega (arith, is))

pub returns-in-Failed-clause-crash : goal.returns-in-Failed-clause-crash
returns-in-Failed-clause-crash g c = λ told only.
    left_closed g.D.Disk.seen g.D.Disk.time g.D.Disk.left (g.D.Disk.seen c.args.disk) c.args.disk c.in-Failed.disk (g.K.Sink.given c.args.sink.now) (g.K.Sink.given c.args.sink.now) refl
    (c.in-Failed.ensures.any_moment told only) (g.S.Source.left c.args.source.now)

pub returns-in-Failed-clause-undamaged : goal.returns-in-Failed-clause-undamaged
returns-in-Failed-clause-undamaged g c = λ told only.
    none_damaged g.D.Disk.seen g.D.Disk.time g.D.Disk.left (g.D.Disk.seen c.args.disk) c.args.disk c.in-Failed.disk (g.K.Sink.given c.args.sink.now) (g.K.Sink.given c.args.sink.now) (g.S.Source.left c.args.source.now)
    (returns-in-Failed-clause-crash g c told only)

pub returns-in-NoMemory-clause-statuses : goal.returns-in-NoMemory-clause-statuses
returns-in-NoMemory-clause-statuses g c = (5, omega arith, refl)

pub returns-in-NoMemory-clause-wrong_words : goal.returns-in-NoMemory-clause-wrong_words
returns-in-NoMemory-clause-wrong_words g c = these_words (file_in c.args.words.now) 6 (sym c.is_keep.ensures ∙ c.if-not-is_keep.false) (λ is. omega (arith, is))

pub returns-in-NoMemory-clause-crash : goal.returns-in-NoMemory-clause-crash
returns-in-NoMemory-clause-crash g c = λ told only.
    left_closed g.D.Disk.seen g.D.Disk.time g.D.Disk.left (g.D.Disk.seen c.args.disk) c.args.disk c.in-NoMemory.disk (g.K.Sink.given c.args.sink.now) (g.K.Sink.given c.args.sink.now) refl
    (c.in-NoMemory.ensures.any_moment told only) (g.S.Source.left c.args.source.now)

pub returns-in-NoMemory-clause-undamaged : goal.returns-in-NoMemory-clause-undamaged
returns-in-NoMemory-clause-undamaged g c = λ told only.
    none_damaged g.D.Disk.seen g.D.Disk.time g.D.Disk.left (g.D.Disk.seen c.args.disk) c.args.disk c.in-NoMemory.disk (g.K.Sink.given c.args.sink.now) (g.K.Sink.given c.args.sink.now) (g.S.Source.left c.args.source.now)
    (returns-in-NoMemory-clause-crash g c told only)
