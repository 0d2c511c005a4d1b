use Rattle.std.proofs.Common.{◌++◌, sym, ◌∙◌, ap, subst, append-nil}
use Rattle.bosh_http.specs.Reading.{Answers}
use Rattle.polled_http.specs.declared.polling.HttpPolled.TheVariants as polled
use Rattle.polled_http.proofs.PollingLemmas.{answers_at_front, poll_reads, result_keeps, result_reads}
use Rattle.polled_http.proofs.polling.PolledReader.poll.Goals as goal

pub returns-in-Some-clause-answers : goal.returns-in-Some-clause-answers
returns-in-Some-clause-answers g c =
    let left = g.K.Polled.left c.args.link.now in
    let unread = c.keep_unread.new.unread.items in
    let kept = c.front.new.self in
    let gives = rw c.in-Some.is at c.in_ok-answer.ensures.front in
    subst (λ k. Answers left left c.args.self.now k c.in-Some.answer) (sym (append-nil kept) ∙ ap (λ u. kept ++ u) (sym c.in_ok-keep_unread.ensures.none))
    (subst (λ k. Answers left left k kept c.in-Some.answer) (c.in_ok-keep_unread.ensures.kept ∙ c.self.view_is)
    (answers_at_front left c.keep_unread.new.reader kept c.in-Some.answer gives))

pub returns-in-Some-clause-reads : goal.returns-in-Some-clause-reads
returns-in-Some-clause-reads g c =
    let left = g.K.Polled.left c.args.link.now in
    poll_reads left left c.args.self.now (c.front.new.self ++ c.keep_unread.new.unread.items) (polled.Came c.in-Some.answer) (returns-in-Some-clause-answers g c)

pub returns-in-None-clause-answers : goal.returns-in-None-clause-answers
returns-in-None-clause-answers g c =
    let gives = rw c.in-None.is at c.in_ok-answer.ensures.front in
    result_keeps c.take_next.result (g.K.Polled.left c.args.link.now) (g.K.Polled.left c.take_next.new.link) c.args.self.now c.front.new.self c.take_next.new.reader c.take_next.new.unread.items
    (gives.1 ∙ c.in_ok-keep_unread.ensures.kept ∙ c.self.view_is) c.take_next.ensures.answers c.take_next.ensures.none

pub returns-in-None-clause-reads : goal.returns-in-None-clause-reads
returns-in-None-clause-reads g c =
    result_reads c.take_next.result (g.K.Polled.left c.args.link.now) (g.K.Polled.left c.take_next.new.link) c.args.self.now (c.take_next.new.reader ++ c.take_next.new.unread.items)
    (returns-in-None-clause-answers g c)
