use Rattle.std.proofs.Common.{◌==◌, ◌++◌, ◌∙◌, if◌then◌else◌, sym, ap, subst}
use Rattle.std.proofs.lemmas.Result.{IfOk-weaker, on_err_weaker}
use Rattle.httparse.specs.Grammar.{HasNoRequest}
use Rattle.bosh_http.specs.Feeding.{FedOver, LetsGo}
use Rattle.bosh_http.specs.Judging.{IsServed, IsRefusedBy}
use Rattle.bosh_http.specs.Message.{IsHeadBegun}
use Rattle.bosh_http.specs.Reader.{OpenedOver}
use Rattle.bosh_http.specs.Taking.{TakesMore}
use Rattle.bosh_http.specs.declared.feeding.HttpFed.TheVariants.{Refused, End}
use Rattle.bosh_http.specs.declared.refusal.HttpRefusal.TheVariants.{Cut}
use Rattle.bosh_http.proofs.JudgingLemmas.{served_is_short}
use Rattle.bosh_http.proofs.FeedingLemmas.{on_err_here, lets_go_none, lets_go_later, fed_later, fed_wrong, fed_ended, reads_fed}
use Rattle.bosh_http.proofs.reading.RequestReader.next_fed.Goals as goal

pub returns-in_err-head-clause-kept : goal.returns-in_err-head-clause-kept
returns-in_err-head-clause-kept g c =
    let left = g.L.Link.left in
    on_err_here c.from_residual.result
    (lets_go_none (left c.args.link.now) (left c.next_head.new.link) c.args.self.now c.next_head.new.self
    (subst (λ kept. TakesMore (left c.args.link.now) (left c.next_head.new.link) kept c.next_head.new.self) c.self.view_is c.in_err-head.ensures.kept))

pub feed_content-requires : goal.feed_content-requires
feed_content-requires g c =
    let left = g.L.Link.left in
    let head = c.in-Head.head in
    let found = subst (OpenedOver IsServed IsRefusedBy HasNoRequest IsHeadBegun (left c.args.link.now) (left c.next_head.new.link) c.self.inside.reader c.next_head.new.self) c.in-Head.is c.in_ok-head.ensures.opened in
    served_is_short (c.self.inside.reader ++ found.0) head.start head.content head.said found.2.0

pub returns-in-Head-clause-answers : goal.returns-in-Head-clause-answers
returns-in-Head-clause-answers g c =
    let left = g.L.Link.left in
    let kept = c.self.inside.reader in
    let kept' = c.feed_content.new.self in
    let first = left c.args.link.now in
    let mid = left c.next_head.new.link in
    let last = left c.feed_content.new.link in
    let fed = g.F.Feed.fed c.feed_content.new.feed in
    let found = subst (OpenedOver IsServed IsRefusedBy HasNoRequest IsHeadBegun first mid kept c.next_head.new.self) c.in-Head.is c.in_ok-head.ensures.opened in
    IfOk-weaker c.feed_content.result _ _
    (λ answer by. subst (λ k. FedOver first last k kept' fed answer) c.self.view_is (fed_later first mid last kept found.0 kept' fed answer found.1 by))
    (c.feed_content.ensures.answers (kept ++ found.0) found.2.0 found.2.1 found.2.2)

pub returns-in-Head-clause-reads : goal.returns-in-Head-clause-reads
returns-in-Head-clause-reads g c =
    let left = g.L.Link.left in
    let kept = c.self.inside.reader in
    let kept' = c.feed_content.new.self in
    let first = left c.args.link.now in
    let mid = left c.next_head.new.link in
    let last = left c.feed_content.new.link in
    let fed = g.F.Feed.fed c.feed_content.new.feed in
    let found = subst (OpenedOver IsServed IsRefusedBy HasNoRequest IsHeadBegun first mid kept c.next_head.new.self) c.in-Head.is c.in_ok-head.ensures.opened in
    IfOk-weaker c.feed_content.result _ _
    (λ answer by. reads_fed first last c.args.self.now kept' fed answer (subst (λ k. FedOver first last k kept' fed answer) c.self.view_is (fed_later first mid last kept found.0 kept' fed answer found.1 by)))
    (c.feed_content.ensures.answers (kept ++ found.0) found.2.0 found.2.1 found.2.2)

pub returns-in-Head-clause-kept : goal.returns-in-Head-clause-kept
returns-in-Head-clause-kept g c =
    let left = g.L.Link.left in
    let kept = c.self.inside.reader in
    let kept' = c.feed_content.new.self in
    let first = left c.args.link.now in
    let mid = left c.next_head.new.link in
    let last = left c.feed_content.new.link in
    let found = subst (OpenedOver IsServed IsRefusedBy HasNoRequest IsHeadBegun first mid kept c.next_head.new.self) c.in-Head.is c.in_ok-head.ensures.opened in
    on_err_weaker c.feed_content.result
    (λ went. subst (λ k. LetsGo first last k kept') c.self.view_is (lets_go_later first mid last kept found.0 kept' found.1 went))
    (c.feed_content.ensures.kept (kept ++ found.0) found.2.1 found.2.2)

pub returns-in-Wrong-clause-reads : goal.returns-in-Wrong-clause-reads
returns-in-Wrong-clause-reads g c =
    let left = g.L.Link.left in
    let kept = c.self.inside.reader in
    let kept' = c.next_head.new.self in
    let first = left c.args.link.now in
    let last = left c.next_head.new.link in
    let fed = g.F.Feed.fed c.args.feed.now in
    let found = subst (OpenedOver IsServed IsRefusedBy HasNoRequest IsHeadBegun first last kept kept') c.in-Wrong.is c.in_ok-head.ensures.opened in
    reads_fed first last c.args.self.now kept' fed (Refused c.in-Wrong.refusal) (subst (λ k. FedOver first last k kept' fed (Refused c.in-Wrong.refusal)) c.self.view_is (fed_wrong first last kept kept' fed c.in-Wrong.refusal found))

pub returns-in-Ended-clause-answers : goal.returns-in-Ended-clause-answers
returns-in-Ended-clause-answers g c =
    let left = g.L.Link.left in
    let kept = c.self.inside.reader in
    let kept' = c.next_head.new.self in
    let first = left c.args.link.now in
    let last = left c.next_head.new.link in
    let fed = g.F.Feed.fed c.args.feed.now in
    let found = subst (OpenedOver IsServed IsRefusedBy HasNoRequest IsHeadBegun first last kept kept') c.in-Ended.is c.in_ok-head.ensures.opened in
    let answer = c.ended.ensures ∙ ap (λ count. if count == 0 then End else Refused (Cut count)) c.len.ensures in
    subst (λ k. FedOver first last k kept' fed c.ended.result) c.self.view_is (subst (FedOver first last kept kept' fed) (sym answer) (fed_ended first last kept kept' fed found))

pub returns-in-Ended-clause-reads : goal.returns-in-Ended-clause-reads
returns-in-Ended-clause-reads g c =
    let left = g.L.Link.left in
    let kept = c.self.inside.reader in
    let kept' = c.next_head.new.self in
    let first = left c.args.link.now in
    let last = left c.next_head.new.link in
    let fed = g.F.Feed.fed c.args.feed.now in
    let found = subst (OpenedOver IsServed IsRefusedBy HasNoRequest IsHeadBegun first last kept kept') c.in-Ended.is c.in_ok-head.ensures.opened in
    let answer = c.ended.ensures ∙ ap (λ count. if count == 0 then End else Refused (Cut count)) c.len.ensures in
    reads_fed first last c.args.self.now kept' fed c.ended.result
    (subst (λ k. FedOver first last k kept' fed c.ended.result) c.self.view_is (subst (FedOver first last kept kept' fed) (sym answer) (fed_ended first last kept kept' fed found)))
