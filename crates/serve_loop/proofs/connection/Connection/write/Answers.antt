use Rattle.std.proofs.Common.{sym, subst, List, ℕ}
use Rattle.std.specs.Io.KnownBytes.{Appends, prepend_known}
use Rattle.bosh_http.specs.Texts.{response_text}
use Rattle.bosh_ports.specs.Sink.{AppendsFront}
use Rattle.serve_loop.specs.Connections.{Moves, closes, status_owed, text_owed}
use Rattle.serve_loop.specs.declared.connection.Stage.TheVariants as stages
use Rattle.serve_loop.proofs.ConnectionLemmas.{after_write, moves_failing, moves_given, keeps_prepended}
use Rattle.serve_loop.proofs.connection.Connection.write.Goals as goal

pub returns-in-Ok-clause-moves : goal.returns-in-Ok-clause-moves
returns-in-Ok-clause-moves g c site purse trail =
    let port = g.L.Link in
    let old = c.args.link.now in
    let new = c.write_response.new.link in
    let kept = c.args.self.now.reader in
    let what = c.args.owed.now in
    let before = prepend_known kept (port.left old) in
    let after = prepend_known kept (port.left new) in
    let Gives : List ℕ → Type 0 = λ bytes. Appends (port.given old) (port.given new) bytes in
    let gave = subst (λ k. Gives (response_text (status_owed what) (text_owed what) k)) c.closes-closing.ensures
    (subst (λ t. Gives (response_text (status_owed what) t c.closes-closing.result)) c.text.ensures
    (subst (λ s. Gives (response_text s c.text.result.now c.closes-closing.result)) c.status.ensures c.in-Ok.ensures.given)) in
    subst (Moves site (after_write before (port.given old) trail purse (port.faults old)) (after_write after (port.given new) trail purse (port.faults new)) (stages.Owing what))
    (sym c.stage_behind.ensures)
    (moves_given site before after (port.given old) (port.given new) trail purse (port.faults old) (port.faults new) what (keeps_prepended kept (port.left old) (port.left new) c.write_response.ensures.left) gave c.in-Ok.ensures.counts)

pub returns-in-Err-clause-moves : goal.returns-in-Err-clause-moves
returns-in-Err-clause-moves g c site purse trail =
    let port = g.L.Link in
    let old = c.args.link.now in
    let new = c.write_response.new.link in
    let kept = c.args.self.now.reader in
    let what = c.args.owed.now in
    let before = prepend_known kept (port.left old) in
    let after = prepend_known kept (port.left new) in
    let Gives : List ℕ → Type 0 = λ bytes. AppendsFront (port.given old) (port.given new) bytes in
    let front = subst (λ k. Gives (response_text (status_owed what) (text_owed what) k)) c.closes-closing.ensures
    (subst (λ t. Gives (response_text (status_owed what) t c.closes-closing.result)) c.text.ensures
    (subst (λ s. Gives (response_text s c.text.result.now c.closes-closing.result)) c.status.ensures c.in-Err.ensures.given)) in
    moves_failing site before after (port.given old) (port.given new) trail purse (port.faults old) (port.faults new) what (keeps_prepended kept (port.left old) (port.left new) c.write_response.ensures.left) front c.in-Err.ensures.fault
