use Rattle.std.proofs.Common.{◌≡◌, ◌+◌, ◌<◌, length, arith}
use Rattle.body_cutter.specs.Begun.{HasBegun}
use Rattle.body_cutter.proofs.BegunStanzas.{over_more, over_refused, over_whole}
use Rattle.body_cutter.proofs.stanza_cutter.StanzaCutter.found_in.Goals as goal

pub returns-in_default : goal.returns-in_default
unfolding HasBegun
returns-in_default c = λ text f more. absurd (omega (arith, f.read.len_is, f.within, c.in_default.ensures))

pub returns-in-More : goal.returns-in-More
unfolding HasBegun
returns-in-More c = λ text f.
    let piece = c.args.piece.now in
    let is : length text + c.in-Some.room ≡ 1000000 = omega (arith, f.read.len_is, f.within, c.in-Some.ensures) in
    let over : c.in-Some.room < length piece = omega (arith, c.if-piece-room.false) in
    let found = rw c.in-More.is at c.in_ok-read.ensures in
    over_more text piece _ c.in-Some.room is over (found text f)

pub returns-in-Whole : goal.returns-in-Whole
unfolding HasBegun
returns-in-Whole c = λ text f.
    let piece = c.args.piece.now in
    let is : length text + c.in-Some.room ≡ 1000000 = omega (arith, f.read.len_is, f.within, c.in-Some.ensures) in
    let over : c.in-Some.room < length piece = omega (arith, c.if-piece-room.false) in
    let found = rw c.in-Whole.is at c.in_ok-read.ensures in
    over_whole text piece c.read-2.new.self c.in-Some.room is over c.in-Whole.count (found text f)

pub returns-in-Refused : goal.returns-in-Refused
unfolding HasBegun
returns-in-Refused c = λ text f.
    let piece = c.args.piece.now in
    let is : length text + c.in-Some.room ≡ 1000000 = omega (arith, f.read.len_is, f.within, c.in-Some.ensures) in
    let over : c.in-Some.room < length piece = omega (arith, c.if-piece-room.false) in
    let found = rw c.in-Refused.is at c.in_ok-read.ensures in
    over_refused text piece c.read-2.new.self c.in-Some.room is over c.in-Refused.refusal (found text f)
