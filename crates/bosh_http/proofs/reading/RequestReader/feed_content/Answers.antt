use Rattle.std.proofs.Common.{rules, ◌≡◌, ◌∙◌, refl, sym, ap, subst, arith, Ok}
use Rattle.bosh_http.specs.Taking.{TakesMore}
use Rattle.bosh_http.proofs.FeedingLemmas.{on_err_here, feeding_on, feeding_same, lets_go_first, lets_go_more, fed_request, fed_fault, fed_cut}
use Rattle.bosh_http.proofs.reading.RequestReader.feed_content.Goals as goal

pub returns-in_err-left-clause-kept : goal.returns-in_err-left-clause-kept
returns-in_err-left-clause-kept g c = λ seen there before_is.
    on_err_here c.from_residual.result
    (lets_go_first (g.L.Link.left c.args.link.now) seen c.args.self.now c.feed.new.self c.args.head.now.start before_is (c.in_err-left.ensures.same ∙ c.self.view_is))

pub returns-in_err-fill-clause-kept : goal.returns-in_err-fill-clause-kept
returns-in_err-fill-clause-kept g c = λ seen there before_is.
    let left = g.L.Link.left in
    let head = c.args.head.now in
    let loop = c.loop-left in
    on_err_here c.from_residual-in_err-fill.result
    (lets_go_more (left c.args.link.now) (left loop.link) seen c.args.self.now loop.self-inside.reader (g.F.Feed.fed loop.feed) head.start head.content loop.left there before_is
    (left c.fill.new.link) c.fill.new.self loop.invariant.feeding c.fill.ensures.takes)

pub returns-in-End-clause-answers : goal.returns-in-End-clause-answers
returns-in-End-clause-answers g c = λ seen served there before_is.
    let left = g.L.Link.left in
    let head = c.args.head.now in
    let loop = c.loop-left in
    let ended = ap (λ filled. Ok filled) c.in-End.is in
    fed_cut (left c.args.link.now) (left loop.link) seen c.args.self.now loop.self-inside.reader (g.F.Feed.fed loop.feed) head.start head.content loop.left there before_is
    (left c.fill.new.link) c.fill.new.self _ head.said served loop.invariant.feeding c.loop-left-test.true (c.in_ok-fill.ensures.end ended) (c.in_ok-fill.ensures.same ended) (c.in_ok-fill.ensures.none ended) refl

pub returns-in-Failed-clause-answers : goal.returns-in-Failed-clause-answers
returns-in-Failed-clause-answers g c = λ seen served there before_is.
    let left = g.L.Link.left in
    let head = c.args.head.now in
    let loop = c.loop-left in
    let fed = g.F.Feed.fed loop.feed in
    let now = c.fill.new.self in
    let same = c.in_ok-fill.ensures.unchanged (ap (λ filled. Ok filled) c.in-Failed.is) in
    fed_fault (left c.args.link.now) (left c.fill.new.link) seen c.args.self.now now fed head.start head.content loop.left there before_is
    head.said served
    (feeding_same (left c.args.link.now) (left loop.link) (left c.fill.new.link) c.args.self.now loop.self-inside.reader now fed head.content loop.left loop.invariant.feeding c.fill.ensures.takes same)
    c.loop-left-test.true

pub returns-in_err-left-2-clause-kept : goal.returns-in_err-left-2-clause-kept
returns-in_err-left-2-clause-kept g c = λ seen there before_is.
    let left = g.L.Link.left in
    let head = c.args.head.now in
    let loop = c.loop-left in
    let more = subst (TakesMore (left loop.link) (left c.fill.new.link) loop.self-inside.reader) (sym c.in_err-left-2.ensures.same) c.fill.ensures.takes in
    on_err_here c.from_residual-in_err-left-2.result
    (lets_go_more (left c.args.link.now) (left loop.link) seen c.args.self.now loop.self-inside.reader (g.F.Feed.fed loop.feed) head.start head.content loop.left there before_is
    (left c.fill.new.link) c.feed-in-loop-left.new.self loop.invariant.feeding more)

pub loop-left-preserved : goal.loop-left-preserved
loop-left-preserved g c =
    let left = g.L.Link.left in
    let fed = g.F.Feed.fed in
    let loop = c.loop-left in
    record {
      feeding = feeding_on (left c.args.link.now) (left loop.link) (left c.fill.new.link) c.args.self.now loop.self-inside.reader c.fill.new.self c.feed-in-loop-left.new.self
          (fed loop.feed) (fed c.feed-in-loop-left.new.feed) c.args.head.now.content loop.left c.in_ok-left-2.left loop.invariant.feeding c.fill.ensures.takes c.in_ok-left-2.ensures.passes;
      given = search rules;
      faults = search rules;
    }

pub returns-clause-answers : goal.returns-clause-answers
returns-clause-answers g c = λ seen served there before_is.
    let left = g.L.Link.left in
    let head = c.args.head.now in
    let loop = c.loop-left in
    let whole : loop.left ≡ 0 = omega (arith, c.loop-left-test.false) in
    fed_request (left c.args.link.now) (left loop.link) seen c.args.self.now loop.self-inside.reader (g.F.Feed.fed loop.feed) head.start head.content loop.left there before_is head.said served loop.invariant.feeding whole
