use Rattle.std.proofs.Common.{sym, subst}
use Rattle.xmpp_stream.specs.declared.stream_cutter.StreamCutter.{StreamCutter}
use Rattle.xmpp_stream.specs.declared.scan.Scanned.{Scanned}
use Rattle.xmpp_stream.specs.declared.scan.Scanned.TheVariants as scanned
use Rattle.xmpp_stream.specs.Cut.{Finds, IsCut, IsUnfinished, IsWrong}
use Rattle.xmpp_stream.proofs.CutLemmas.{broken_step, found_in, on_err, on_err_map, scanned_anew, scanned_more, told_waiting}
use Rattle.xmpp_stream.proofs.stream_cutter.StreamCutter.step_at_element.Goals as goal

pub returns-in_err-feed-clause-err : goal.returns-in_err-feed-clause-err
unfolding IsCut
returns-in_err-feed-clause-err c = λ fed elements h o. on_err c.from_residual.result _ (scanned_anew h c.feed.new.self o c.in_err-feed.ensures.err)

pub returns-in-More-clause-ok : goal.returns-in-More-clause-ok
unfolding IsCut
returns-in-More-clause-ok c = λ fed elements h o.
    let f : Finds scanned.More c.feed.new.self c.args.self.now.kept = subst (λ (x : Scanned). Finds x c.feed.new.self c.args.self.now.kept) c.in-More.is (found_in h o c.as_slice.result.now c.as_slice.ensures c.feed.new.self c.feed.result c.in_ok-feed.field-0 c.in_ok-feed.was c.feed.ensures.ok) in
    (scanned_more h c.feed.new.self o f.0, told_waiting h o (IsUnfinished.element c.requires f.1))

pub returns-in-Whole-clause-ok : goal.returns-in-Whole-clause-ok
unfolding IsCut
returns-in-Whole-clause-ok c = λ fed elements h o.
    let f : Finds (scanned.Whole c.in-Whole.count) c.feed.new.self c.args.self.now.kept = subst (λ (x : Scanned). Finds x c.feed.new.self c.args.self.now.kept) c.in-Whole.is (found_in h o c.as_slice.result.now c.as_slice.ensures c.feed.new.self c.feed.result c.in_ok-feed.field-0 c.in_ok-feed.was c.feed.ensures.ok) in
    c.step_over.ensures.ok fed elements (scanned_anew h c.feed.new.self o f.0) o c.requires f.2

pub returns-in-Whole-clause-err : goal.returns-in-Whole-clause-err
unfolding IsCut
returns-in-Whole-clause-err c = λ fed elements h o.
    let f : Finds (scanned.Whole c.in-Whole.count) c.feed.new.self c.args.self.now.kept = subst (λ (x : Scanned). Finds x c.feed.new.self c.args.self.now.kept) c.in-Whole.is (found_in h o c.as_slice.result.now c.as_slice.ensures c.feed.new.self c.feed.result c.in_ok-feed.field-0 c.in_ok-feed.was c.feed.ensures.ok) in
    on_err_map c.step_over.result _ _ (λ same. subst (λ (x : StreamCutter). IsCut x fed elements) (sym same) (scanned_anew h c.feed.new.self o f.0)) c.step_over.ensures.err

pub returns-in-Refused-clause-ok : goal.returns-in-Refused-clause-ok
unfolding IsCut
returns-in-Refused-clause-ok c = λ fed elements h o.
    let f : Finds scanned.Refused c.feed.new.self c.args.self.now.kept = subst (λ (x : Scanned). Finds x c.feed.new.self c.args.self.now.kept) c.in-Refused.is (found_in h o c.as_slice.result.now c.as_slice.ensures c.feed.new.self c.feed.result c.in_ok-feed.field-0 c.in_ok-feed.was c.feed.ensures.ok) in
    broken_step (record { alloc = c.args.self.now.alloc; kept = c.args.self.now.kept; scan = c.feed.new.self; state = c.args.self.now.state }) c.go_wrong.new.self c.args.self.now.scan c.go_wrong.result h o
    (IsWrong.no_element c.requires f.1) c.go_wrong.ensures.told c.go_wrong.ensures.broken
