use Rattle.std.proofs.Common.{◌≡◌}
use Rattle.session_core.specs.Tickets.{give_word}
use Rattle.session_core.proofs.InPlace.{changed}
use Rattle.session_core.proofs.tickets.last_words_for_all.Given as goal

-- so many are changed
abbrev pub invariant-loop-index : goal.invariant-loop-index
invariant-loop-index l = l.out ≡ changed (give_word l.breaker l.word l.other) l.index l.fn.out
