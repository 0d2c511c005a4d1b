use Rattle.std.proofs.Common.{◌≡◌, ◌∙◌, ap, inl, inr, Ok, refl, subst, sym, true}
use Rattle.std.specs.Io.KnownBytes.{prepend_known}
use Rattle.serve_loop.specs.declared.connection.Stage.TheVariants as stages
use Rattle.serve_loop.specs.declared.owed.Owed.TheVariants as owed
use Rattle.serve_loop.specs.Connections.{is_read, outside}
use Rattle.serve_loop.proofs.ConnectionLemmas.{moves_to_want}
use Rattle.serve_loop.proofs.SteppingLemmas.{counts_read, step_whole, steps_still}
use Rattle.serve_loop.proofs.polled_connection.PolledConnection.read.Goals as goal

pub returns-in-Ok-Came-clause-moves : goal.returns-in-Ok-Came-clause-moves
returns-in-Ok-Came-clause-moves g c = λ site purse.
    let port = g.K.Polled in
    let old = c.args.link.now in
    let new = c.poll.new.link in
    let it = c.in-Ok-Came in
    let reader = c.args.self.now.reader in
    let reader' = c.poll.new.self in
    step_whole site (outside reader (port.left old) (port.given old) c.args.trail.now purse (port.faults old)) (outside reader' (port.left new) (port.given new) c.stage_by.new.trail purse (port.faults new))
    (record { stage = stages.Reading; place = c.args.place }) c.at.result.standing stages.Reading c.stage_by.result refl (λ start stands. stands) c.at.ensures.stage c.at.ensures.place
    (c.stage_by.ensures.moves site purse (prepend_known reader (port.left old)) (prepend_known reader' (port.left new)) (port.given old) (port.given new) (port.faults old) (port.faults new)
    (rw it.field-0-is at it.ensures.reads) c.poll.ensures.given
    (counts_read c.poll.result it.answer (port.faults old) (port.faults new) (it.is ∙ ap Ok it.field-0-is) c.poll.ensures.fault c.poll.ensures.quiet))

pub returns-in-Ok-More-clause-moves : goal.returns-in-Ok-More-clause-moves
returns-in-Ok-More-clause-moves g c = λ site purse.
    let port = g.K.Polled in
    let old = c.args.link.now in
    let new = c.poll.new.link in
    let it = c.in-Ok-More in
    let trail = c.args.trail.now in
    steps_still site (outside c.args.self.now.reader (port.left old) (port.given old) trail purse (port.faults old)) (outside c.poll.new.self (port.left new) (port.given new) trail purse (port.faults new))
    c.args.place c.at-in-Ok-More.result.standing (rw it.field-0-is at it.ensures.reads) c.poll.ensures.given refl refl (it.ensures.quiet (λ no. let is = it.field-0-is in cc)) c.at-in-Ok-More.ensures.stage

pub returns-in-Ok-NotYet-clause-moves : goal.returns-in-Ok-NotYet-clause-moves
returns-in-Ok-NotYet-clause-moves g c = λ site purse.
    let port = g.K.Polled in
    let old = c.args.link.now in
    let new = c.poll.new.link in
    let it = c.in-Ok-NotYet in
    let trail = c.args.trail.now in
    steps_still site (outside c.args.self.now.reader (port.left old) (port.given old) trail purse (port.faults old)) (outside c.poll.new.self (port.left new) (port.given new) trail purse (port.faults new))
    c.args.place (record { stage = stages.Reading; place = c.args.place }) (rw it.field-0-is at it.ensures.reads) c.poll.ensures.given refl refl (it.ensures.quiet (λ no. let is = it.field-0-is in cc)) refl

pub returns-in-Err-clause-moves : goal.returns-in-Err-clause-moves
returns-in-Err-clause-moves g c = λ site purse.
    let port = g.K.Polled in
    let old = c.args.link.now in
    let new = c.poll.new.link in
    let trail = c.args.trail.now in
    step_whole site (outside c.args.self.now.reader (port.left old) (port.given old) trail purse (port.faults old)) (outside c.poll.new.self (port.left new) (port.given new) trail purse (port.faults new))
    (record { stage = stages.Reading; place = c.args.place }) c.at-in-Err.result.standing stages.Reading (stages.Owing owed.NoMemory) refl (λ start stands. stands) c.at-in-Err.ensures.stage
    c.at-in-Err.ensures.place
    (moves_to_want site (port.left old) (port.left new) (port.given old) (port.given new) c.args.self.now.reader c.poll.new.self trail purse (port.faults old) (port.faults new) c.in-Err.ensures.kept
    c.poll.ensures.given (c.in-Err.ensures.quiet (λ no. cc)))

pub returns-in-Ok-Came-clause-next : goal.returns-in-Ok-Came-clause-next
returns-in-Ok-Came-clause-next g c = λ _. inl (subst (λ stage. is_read stage ≡ true) (sym c.at.ensures.stage) c.stage_by.ensures.next)

pub returns-in-Ok-More-clause-next : goal.returns-in-Ok-More-clause-next
returns-in-Ok-More-clause-next g c = λ _.
    let it = c.in-Ok-More in
    let takes = rw it.field-0-is at it.ensures.answers in
    inr (c.at-in-Ok-More.ensures.stage, record { nothing = takes.0; piece = takes.1.piece; some = takes.1.some; is = takes.1.is })

pub returns-in-Err-clause-next : goal.returns-in-Err-clause-next
returns-in-Err-clause-next g c = λ _. inl (subst (λ stage. is_read stage ≡ true) (sym c.at-in-Err.ensures.stage) refl)
