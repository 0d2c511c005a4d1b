use Rattle.std.proofs.Common.{◌≡◌, ℕ, suc, ◌-◌, List, ◌∙◌, ap, arith}
use Rattle.journal_store.specs.Reading.{texts_at}
use Rattle.journal_store.proofs.ReadLemmas.{with_front, texts_more}
use Rattle.journal_store.proofs.fields.texts_of.Goals as goal

pub loop-left-preserved : goal.loop-left-preserved
loop-left-preserved c =
    let left = c.loop-left.left - 1 in
    let more : suc left ≡ c.loop-left.left = omega (arith, c.loop-left-test.true) in
    ap (λ (l : List (List ℕ)). with_front l (texts_at left c.in_ok-text.after.now)) c.in_ok-push.ensures.items
    ∙ texts_more c.loop-left.texts.items left c.loop-left.rest.now c.in_ok-text.text c.in_ok-text.after.now c.in_ok-text.ensures
    ∙ ap (λ (n : ℕ). with_front c.loop-left.texts.items (texts_at n c.loop-left.rest.now)) more
    ∙ c.loop-left.invariant
