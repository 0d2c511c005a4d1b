use Rattle.std.proofs.Common.{sym, ◌∙◌, ap, drop}
use Rattle.bosh_http.specs.Fields.{has_word}
use Rattle.httparse.specs.Grammar.{trim_ows}
use Rattle.bosh_http.proofs.WordLemmas.{word_here, word_later, word_last}
use Rattle.bosh_http.proofs.words.has_word.Goals as goal

pub returns-then-is_same_word : goal.returns-then-is_same_word
returns-then-is_same_word c =
    word_here c.args.word.now c.loop-end.left.now c.trim.result.now c.in-Some.end (sym c.in-Some.ensures.at)
    (c.trim.ensures ∙ ap trim_ows c.split_at.ensures.front) (sym c.is_same_word.ensures ∙ c.if-is_same_word.true)
    ∙ sym c.loop-end.invariant

pub loop-end-preserved : goal.loop-end-preserved
loop-end-preserved c =
    c.loop-end.invariant
    ∙ word_later c.args.word.now c.loop-end.left.now c.trim.result.now c.in-Some.end (sym c.in-Some.ensures.at)
    (c.trim.ensures ∙ ap trim_ows c.split_at.ensures.front) (sym c.is_same_word.ensures ∙ c.if-is_same_word.false)
    ∙ ap (has_word c.args.word.now) (sym (c.split_at-in-Some.ensures.back ∙ ap (drop 1) c.split_at.ensures.back))

pub returns : goal.returns
returns c =
    c.is_same_word-2.ensures
    ∙ word_last c.args.word.now c.loop-end.left.now c.trim-2.result.now (sym c.in_default.ensures.at) c.trim-2.ensures
    ∙ sym c.loop-end.invariant
