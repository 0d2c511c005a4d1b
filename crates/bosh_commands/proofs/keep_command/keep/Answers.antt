use Rattle.std.proofs.Common.{◌∙◌, ◌∷◌, [], ℕ, Contains, refl, sym, subst, arith}
use Rattle.script_text.specs.declared.kept.KeptError.TheVariants as errors
use Rattle.bosh_commands.proofs.KeepLemmas.{gives, is_error, keeps, keeps_none, kept_among, not_error}
use Rattle.bosh_commands.proofs.keep_command.keep.Goals as goal

pub returns-clause-statuses : goal.returns-clause-statuses
returns-clause-statuses g c = subst (λ (n : ℕ). Contains (0 ∷ 3 ∷ 4 ∷ 5 ∷ 6 ∷ 11 ∷ []) n) (sym c.status_after-status.ensures) (kept_among c.drive_over-driven.result)

pub returns-clause-done : goal.returns-clause-done
returns-clause-done g c = λ is.
    let resumed = c.in-Ok.ensures in
    gives c.args.sessions.items resumed.0 resumed.1 c.in-Ok.sessions.manager resumed.2 (g.S.Source.left c.args.source.now) (g.K.Sink.given c.args.sink.now) (g.K.Sink.given c.drive_over-driven.new.sink)
    c.drive_over-driven.result 0 c.drive_over-driven.ensures.report (sym c.status_after-status.ensures ∙ is) (omega arith)

pub returns-clause-bad : goal.returns-clause-bad
returns-clause-bad g c = λ is.
    let resumed = c.in-Ok.ensures in
    gives c.args.sessions.items resumed.0 resumed.1 c.in-Ok.sessions.manager resumed.2 (g.S.Source.left c.args.source.now) (g.K.Sink.given c.args.sink.now) (g.K.Sink.given c.drive_over-driven.new.sink)
    c.drive_over-driven.result 3 c.drive_over-driven.ensures.report (sym c.status_after-status.ensures ∙ is) (omega arith)

pub returns-clause-crash : goal.returns-clause-crash
returns-clause-crash g c = λ told.
    let resumed = c.in-Ok.ensures in
    keeps g.D.Disk.seen g.D.Disk.time g.D.Disk.left c.args.sessions.items resumed.0 resumed.1 c.in-Ok.sessions.manager resumed.2 c.args.store c.drive_over-driven.new.store.journals.file.disk
    (g.K.Sink.given c.args.sink.now) (g.K.Sink.given c.drive_over-driven.new.sink) (g.S.Source.left c.args.source.now) (c.drive_over-driven.ensures.kept told) (c.drive_over-driven.ensures.any_moment told)

pub returns-clause-read_fault : goal.returns-clause-read_fault
returns-clause-read_fault g c = λ is. c.drive_over-driven.ensures.read_fault (is_error c.drive_over-driven.result errors.ReadFault (omega arith) (sym c.status_after-status.ensures ∙ is))

pub returns-clause-write_fault : goal.returns-clause-write_fault
returns-clause-write_fault g c = λ is. c.drive_over-driven.ensures.write_fault (is_error c.drive_over-driven.result errors.WriteFault (omega arith) (sym c.status_after-status.ensures ∙ is))

pub returns-clause-store_fault : goal.returns-clause-store_fault
returns-clause-store_fault g c = λ is. c.drive_over-driven.ensures.store_fault (is_error c.drive_over-driven.result errors.StoreFault (omega arith) (sym c.status_after-status.ensures ∙ is))

pub returns-clause-read_counts : goal.returns-clause-read_counts
returns-clause-read_counts g c = λ apart. c.drive_over-driven.ensures.read_counts (not_error c.drive_over-driven.result errors.ReadFault (λ is. apart (c.status_after-status.ensures ∙ is)))

pub returns-clause-write_counts : goal.returns-clause-write_counts
returns-clause-write_counts g c = λ apart. c.drive_over-driven.ensures.write_counts (not_error c.drive_over-driven.result errors.WriteFault (λ is. apart (c.status_after-status.ensures ∙ is)))

pub returns-clause-store_counts : goal.returns-clause-store_counts
returns-clause-store_counts g c = λ apart. c.drive_over-driven.ensures.store_counts (not_error c.drive_over-driven.result errors.StoreFault (λ is. apart (c.status_after-status.ensures ∙ is)))

pub returns-in_default-clause-crash : goal.returns-in_default-clause-crash
returns-in_default-clause-crash g c = λ told. keeps_none g.D.Disk.seen g.D.Disk.time g.D.Disk.left c.args.sessions.items c.args.store (g.K.Sink.given c.args.sink.now) (g.S.Source.left c.args.source.now)

pub returns-in_default-clause-statuses : goal.returns-in_default-clause-statuses
returns-in_default-clause-statuses g c = (4, omega arith, refl)
