use Rattle.std.proofs.Common.{arith, get_or, ◌<◌, length}
use Rattle.std.proofs.lemmas.List.{get_or_default}
use Rattle.stream_backend.proofs.PlaceLemmas.{hears_more}
use Rattle.stream_backend.proofs.lines.note_news.Goals as goal

pub loop-line-preserved : goal.loop-line-preserved
loop-line-preserved g c =
    let ys = c.loop-line.lines in
    let i = c.loop-line.line-index in
    let within : i < length ys = omega (arith, c.loop-line-test.true, c.loop-line.auto.lines) in
    hears_more c.args.lines.now ys i (get_or ys i c.line-item.result) c.wake_if.new.line c.loop-line.invariant within (get_or_default ys i c.line-item.result (get_or ys i c.line-item.result) within) c.wake_if.ensures
