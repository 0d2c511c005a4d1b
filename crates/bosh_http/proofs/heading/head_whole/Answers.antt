use Rattle.std.proofs.Common.{sym, ◌∙◌, map}
use Rattle.httparse.specs.Spans.{header_bytes}
use Rattle.bosh_http.proofs.HeadingLemmas.{whole_bad, whole_good, good_head}
use Rattle.bosh_http.proofs.heading.head_whole.Goals as goal

pub returns-then-is_bad : goal.returns-then-is_bad
returns-then-is_bad c =
    whole_bad c.args.front.now c.args.headers.now c.split_at.result.0.now c.args.spans.now
    c.requires.short c.requires.within c.requires.whole c.split_at.ensures.front (sym c.is_bad.ensures ∙ c.if-is_bad.true)

pub returns-in-Ok : goal.returns-in-Ok
returns-in-Ok c =
    whole_good c.args.front.now c.args.headers.now c.split_at.result.0.now c.args.spans.now c.first_length.result c.in-Ok.status
    c.requires.short c.requires.within c.requires.whole c.split_at.ensures.front (sym c.is_bad.ensures ∙ c.if-is_bad.false) c.first_length.ensures c.in-Ok.ensures.1

pub returns-in-Err : goal.returns-in-Err
returns-in-Err c =
    let good = good_head c.args.spans.now.code (map (header_bytes c.args.front.now) c.split_at.result.0.now) (sym c.is_bad.ensures ∙ c.if-is_bad.false) in
    absurd (c.in-Err.ensures (good.0, c.requires.within.code))
