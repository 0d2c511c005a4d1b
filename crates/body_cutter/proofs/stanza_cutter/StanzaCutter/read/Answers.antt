use Rattle.std.proofs.Common.{◌+◌, ◌≤◌, length, refl, arith}
use Rattle.body_cutter.specs.declared.place.Kind.TheVariants as kinds
use Rattle.body_cutter.specs.Begun.{HasBegun}
use Rattle.body_cutter.proofs.BegunStanzas.{ended_found, stopped_found}
use Rattle.body_cutter.proofs.FedLemmas.{piece_read}
use Rattle.body_cutter.proofs.stanza_cutter.StanzaCutter.read.Goals as goal

pub returns-in-Some : goal.returns-in-Some
unfolding HasBegun
returns-in-Some c = λ text f.
    let piece = c.args.piece.now in
    let within : length text + length piece ≤ 1000000 = omega (arith, f.read.len_is, c.requires) in
    let reads = rw c.in-Some.is at c.in_ok-at.ensures in
    rw c.found_before.ensures (stopped_found text piece c.found_before.new.self within _ _ _ _ _ _ _ f.read refl reads)

pub returns-in-None : goal.returns-in-None
unfolding HasBegun
returns-in-None c = λ text f.
    let piece = c.args.piece.now in
    let within : length text + length piece ≤ 1000000 = omega (arith, f.read.len_is, c.requires) in
    let reads = rw c.in-None.is at c.in_ok-at.ensures in
    rw c.found_at.ensures (ended_found text piece _ within (rw c.grow.ensures (piece_read kinds.Stanza text _ _ _ _ piece _ f.read refl reads)))
