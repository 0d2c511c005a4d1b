use Rattle.std.proofs.Common.{◌∙◌, ap, sym, arith}
use Rattle.std.specs.Prelude.{Err}
use Rattle.body_cutter.specs.Feeding.{longest_of}
use Rattle.body_cutter.proofs.FedLemmas.{come_alive, come_refused, end_gives, long_answer, refusal_gives, within_longest}
use Rattle.body_cutter.proofs.feeding.FedText.finish.Goals as goal

pub returns-then-self-longest_of : goal.returns-then-self-longest_of
returns-then-self-longest_of c = λ kind text f.
    let e = c.longest_of.ensures ∙ ap longest_of f.kind_is in
    long_answer kind text c.args.self.len f.len_is (omega (arith, e, c.if-self-longest_of.true))

pub returns-in-Alive : goal.returns-in-Alive
returns-in-Alive c = λ kind text f.
    let e = c.longest_of.ensures ∙ ap longest_of f.kind_is in
    let within = within_longest kind text c.args.self.len f.len_is (omega (arith, e, c.if-self-longest_of.false)) in
    rw (end_gives kind text within _ _ _ (come_alive kind text _ _ _ _ c.in-Alive.is f.come)) c.end.ensures

pub returns-in-Refused : goal.returns-in-Refused
returns-in-Refused c = λ kind text f.
    let e = c.longest_of.ensures ∙ ap longest_of f.kind_is in
    let within = within_longest kind text c.args.self.len f.len_is (omega (arith, e, c.if-self-longest_of.false)) in
    refusal_gives kind text within _ _ (come_refused kind text _ _ _ _ _ _ c.in-Refused.is f.come) ∙ ap Err (sym c.refusal_with.ensures)
