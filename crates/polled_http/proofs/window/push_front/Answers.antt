use Rattle.std.proofs.Common.{arith, rules, length, take, ap, ◌≡◌, ◌+◌, ◌++◌, ◌∙◌}
use Rattle.std.proofs.lemmas.List.{length-append, length-take}
use Rattle.polled_http.proofs.WindowLemmas.{shows_some}
use Rattle.polled_http.proofs.window.push_front.Goals as goal

pub returns : goal.returns
returns c =
    let space = c.remaining_capacity-space.result in
    let before = c.args.room.now.items in
    let bytes = c.args.bytes.now in
    let shown = c.push-2.new.room.items in
    let is : shown ≡ before ++ take space bytes = search rules in
    let size : length shown ≡ length before + length (take space bytes) = ap length is ∙ length-append before (take space bytes) in
    shows_some before shown bytes space is (omega (arith, c.if-bytes-space.false)) (omega (arith, size, length-take space bytes, c.remaining_capacity-space.ensures, c.if-bytes-space.false))
