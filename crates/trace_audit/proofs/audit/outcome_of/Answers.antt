use Rattle.std.proofs.Common.{◌≡◌, [], IfOk, IfSome, ap, arith, refl, subst, sym, ◌∙◌, ◌+◌}
use Rattle.std.specs.Io.KnownBytes.{prepend_known}
use Rattle.trace_audit.specs.Outcome.{Audits}
use Rattle.trace_audit.proofs.StepLemmas.{GoingOn, bad_line, begins, below, broken_line, end_line, goes_line, too_many}
use Rattle.trace_audit.proofs.audit.outcome_of.Goals as goal

pub loop-n-init : goal.loop-n-init
loop-n-init g c =
    let empty : c.in_ok-reader.reader ≡ [] = subst (λ r. IfOk r (λ reader. reader ≡ [])) c.in_ok-reader.was c.new.ensures in
    record {
      going = subst (λ t. GoingOn (g.S.Source.left c.args.source.now) (prepend_known c.in_ok-reader.reader (g.S.Source.left c.args.source.now)) c.new-heard.result t 1) (sym c.new-tally.ensures)
          (begins (g.S.Source.left c.args.source.now) c.in_ok-reader.reader c.new-heard.result empty c.new-heard.ensures);
      faults = refl;
      requests = omega (arith, ap (λ t. t.requests) c.new-tally.ensures);
      passed = omega (arith, ap (λ t. t.passed) c.new-tally.ensures);
      got = omega (arith, ap (λ t. t.got) c.new-tally.ensures);
    }

pub returns-in-BadLine-clause-outcome : goal.returns-in-BadLine-clause-outcome
returns-in-BadLine-clause-outcome g c =
    bad_line (g.S.Source.left c.args.source.now) (prepend_known c.loop-n.reader (g.S.Source.left c.loop-n.source)) (prepend_known c.next_line.new.self (g.S.Source.left c.next_line.new.source))
    c.loop-n.heard c.loop-n.tally c.loop-n.n c.in_ok-next_line.field-0 c.in-BadLine.kind c.loop-n.invariant.going (omega (arith, c.loop-n-test.true)) c.in_ok-next_line.ensures.reads (sym c.in-BadLine.is ∙ c.in_ok-line.ensures)

pub returns-then-is_end-clause-outcome : goal.returns-then-is_end-clause-outcome
returns-then-is_end-clause-outcome g c =
    subst (λ o. IfSome (g.S.Source.left c.args.source.now) (λ text. Audits text o)) (sym c.yes.ensures)
    (end_line (g.S.Source.left c.args.source.now) (prepend_known c.loop-n.reader (g.S.Source.left c.loop-n.source)) (prepend_known c.next_line.new.self (g.S.Source.left c.next_line.new.source))
    c.loop-n.heard c.loop-n.tally c.loop-n.n c.in_ok-next_line.field-0 c.in-Line.line c.a_trace_that_holds_keeps_both_prefixes.ensures
    c.loop-n.invariant.going (omega (arith, c.loop-n-test.true)) c.in_ok-next_line.ensures.reads (sym c.in-Line.is ∙ c.in_ok-line.ensures) (sym c.is_end.ensures ∙ c.if-is_end.true))

pub returns-in-Some-clause-outcome : goal.returns-in-Some-clause-outcome
returns-in-Some-clause-outcome g c =
    broken_line (g.S.Source.left c.args.source.now) (prepend_known c.loop-n.reader (g.S.Source.left c.loop-n.source)) (prepend_known c.next_line.new.self (g.S.Source.left c.next_line.new.source))
    c.loop-n.heard c.judge.new.self c.loop-n.tally c.loop-n.n c.in_ok-next_line.field-0 c.in-Line.line c.in_ok-rule.field-0 c.in-Some.rule
    c.loop-n.invariant.going (omega (arith, c.loop-n-test.true)) c.in_ok-next_line.ensures.reads (sym c.in-Line.is ∙ c.in_ok-line.ensures) c.in_ok-rule.ensures c.in-Some.is

pub loop-n-preserved : goal.loop-n-preserved
loop-n-preserved g c =
    let counts = below c.loop-n.tally c.in-Line.line c.loop-n.n c.loop-n.invariant.requests c.loop-n.invariant.passed c.loop-n.invariant.got in
    record {
      going = subst (λ t. GoingOn (g.S.Source.left c.args.source.now) (prepend_known c.next_line.new.self (g.S.Source.left c.next_line.new.source)) c.judge.new.self t (c.loop-n.n + 1)) (sym c.with-next.ensures)
          (goes_line (g.S.Source.left c.args.source.now) (prepend_known c.loop-n.reader (g.S.Source.left c.loop-n.source)) (prepend_known c.next_line.new.self (g.S.Source.left c.next_line.new.source))
          c.loop-n.heard c.judge.new.self c.loop-n.tally c.loop-n.n c.in_ok-next_line.field-0 c.in-Line.line c.in_ok-rule.field-0
          c.loop-n.invariant.going c.in_ok-next_line.ensures.reads (sym c.in-Line.is ∙ c.in_ok-line.ensures) (sym c.is_end.ensures ∙ c.if-is_end.false) c.in_ok-rule.ensures c.in_default.is);
      faults = c.in_ok-next_line.ensures.counts ∙ c.loop-n.invariant.faults;
      requests = omega (arith, counts.0, ap (λ t. t.requests) c.with-next.ensures);
      passed = omega (arith, counts.1, ap (λ t. t.passed) c.with-next.ensures);
      got = omega (arith, counts.2, ap (λ t. t.got) c.with-next.ensures);
    }

pub returns-clause-outcome : goal.returns-clause-outcome
returns-clause-outcome g c =
    too_many (g.S.Source.left c.args.source.now) (prepend_known c.loop-n.reader (g.S.Source.left c.loop-n.source)) c.loop-n.heard c.loop-n.tally c.loop-n.n _ c.loop-n.invariant.going
    (omega (arith, c.loop-n-test.false, c.loop-n.auto.n-end)) refl
