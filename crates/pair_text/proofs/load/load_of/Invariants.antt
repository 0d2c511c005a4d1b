use Rattle.std.proofs.Common.{◌≡◌, ◌+◌}
use Rattle.rand_chacha.specs.ChaCha.{key_of}
use Rattle.pair_text.specs.Load.{begun, first_id, rounds, seed_of, turns, word}
use Rattle.pair_text.specs.Loads.{IsLoad}
use Rattle.pair_text.proofs.load.load_of.Given as goal

-- so many turns were made, and the next word is the one after theirs
abbrev pub invariant-loop : goal.invariant-loop
invariant-loop l = record {
  words : l.words ≡ record { key = key_of (seed_of l.number); stream = 0; word_pos = l.counter + 1 };
  load : IsLoad l.load (turns l.number l.counter (begun (first_id (word l.number 0))));
}

-- and then so many rounds
abbrev pub invariant-loop-2 : goal.invariant-loop-2
invariant-loop-2 l = IsLoad l.load (rounds l.counter (turns l.number 2000 (begun (first_id (word l.number 0)))))
