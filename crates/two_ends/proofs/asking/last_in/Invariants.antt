use Rattle.std.proofs.Common.{◌≡◌, drop, map}
use Rattle.two_ends.specs.Asked.{last_after, last_answer}
use Rattle.two_ends.specs.Worlds.{pair_of}
use Rattle.two_ends.proofs.asking.last_in.Given as goal

-- what is last of all is last of those that are left, after those that were looked at
abbrev pub invariant-loop-answer : goal.invariant-loop-answer
invariant-loop-answer l = record {
  count : l.number ≡ l.answer-index;
  last : last_answer l.rid (map pair_of l.written) ≡ last_after l.rid l.last l.number (map pair_of (drop l.answer-index l.written));
}
