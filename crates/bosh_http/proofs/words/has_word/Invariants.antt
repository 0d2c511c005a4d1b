use Rattle.std.proofs.Common.{◌≡◌, length}
use Rattle.bosh_http.specs.Fields.{has_word}
use Rattle.bosh_http.proofs.words.has_word.Given as goal

abbrev pub invariant-loop-end : goal.invariant-loop-end
invariant-loop-end l = has_word l.word l.list ≡ has_word l.word l.left

abbrev pub decreases-loop-end : goal.decreases-loop-end
decreases-loop-end l = length l.left
