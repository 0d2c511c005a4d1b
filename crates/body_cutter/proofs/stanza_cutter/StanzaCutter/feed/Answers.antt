use Rattle.body_cutter.proofs.BegunStanzas.{found_told, open_told}
use Rattle.body_cutter.proofs.stanza_cutter.StanzaCutter.feed.Goals as goal

pub returns-in-More : goal.returns-in-More
returns-in-More c = λ text f.
    let found = rw c.in-More.is at c.in_ok-found_in.ensures in
    let begun = found text f in
    (begun, open_told _ _ begun)

pub returns-in-Refused : goal.returns-in-Refused
returns-in-Refused c = λ text f.
    let found = rw c.in-Refused.is at c.in_ok-found_in.ensures in
    found_told text c.args.piece.now c.in-Refused.refusal (found text f)
