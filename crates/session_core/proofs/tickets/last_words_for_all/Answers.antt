use Rattle.std.proofs.Common.{◌∙◌}
use Rattle.session_core.specs.Tickets.{give_word}
use Rattle.session_core.proofs.InPlace.{changed_all, changed_step}
use Rattle.session_core.proofs.tickets.last_words_for_all.Goals as goal

pub loop-index-preserved : goal.loop-index-preserved
loop-index-preserved c =
    changed_step (give_word c.args.breaker c.args.word.now c.args.other.now) c.loop-index.index c.args.out.now c.loop-index.out c.index-out-index.result c.give_word.new.ticket c.loop-index.invariant c.loop-index-test.true c.in_ok-give_word.ensures

pub returns : goal.returns
returns c = c.loop-index.invariant ∙ changed_all (give_word c.args.breaker c.args.word.now c.args.other.now) c.loop-index.index c.args.out.now c.loop-index-test.false
