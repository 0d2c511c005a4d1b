use Rattle.std.proofs.Common.{◌≡◌, ◌∙◌, ◌+◌, ◌<◌, ℕ, add-one, ap, arith, subst, sym}
use Rattle.std.specs.Prelude.{◌%◌, ◌^◌}
use Rattle.rand_chacha.specs.ChaCha.{ChaCha, key_of, next_word, of_seed}
use Rattle.pair_text.specs.Load.{begun, first_id, load_of, rounds, seed_of, turn, turns, word}
use Rattle.pair_text.specs.Loads.{IsLoad}
use Rattle.pair_text.proofs.load.load_of.Goals as goal

small : (n : ℕ) → n < 2 ^ 68 → n % 2 ^ 68 ≡ n
small n low = omega (arith, low)

pub loop-init : goal.loop-init
unfolding turns
loop-init c =
    let at : c.from_seed-words.result ≡ of_seed (seed_of c.args.number) = c.from_seed-words.ensures ∙ ap of_seed c.seed_of.ensures in
    let word_is : c.next_word.result ≡ word c.args.number 0 = ap (λ p. p.0) c.next_word.ensures ∙ ap (λ g. (next_word 4 g).0) at in
    record {
      words = ap (λ p. p.1) c.next_word.ensures ∙ ap (λ g. (next_word 4 g).1) at;
      load = subst (λ w. IsLoad c.in_ok-load.load (begun (first_id w))) word_is c.in_ok-load.ensures;
    }

pub loop-preserved : goal.loop-preserved
unfolding turns
loop-preserved c =
    let number = c.args.number in
    let start = begun (first_id (word number 0)) in
    let at = c.loop.invariant.words in
    let word_is : c.next_word-in-loop.result ≡ word number (c.loop.counter + 1) = ap (λ p. p.0) c.next_word-in-loop.ensures ∙ ap (λ g. (next_word 4 g).0) at in
    let moved : c.next_word-in-loop.new.self ≡ record { key = key_of (seed_of number); stream = 0; word_pos = (c.loop.counter + 1 + 1) % 2 ^ 68 } =
    ap (λ p. p.1) c.next_word-in-loop.ensures ∙ ap (λ g. (next_word 4 g).1) at in
    let place : ℕ → ChaCha = λ pos. record { key = key_of (seed_of number); stream = 0; word_pos = pos } in
    record {
      words = moved ∙ ap place (small (c.loop.counter + 1 + 1) (omega (arith, c.loop-test.true)));
      load = subst (λ n. IsLoad c.turn.new.self (turns number n start)) (sym (add-one c.loop.counter))
          (subst (λ w. IsLoad c.turn.new.self (turn w (turns number c.loop.counter start))) word_is (c.in_ok-turn.ensures _ c.loop.invariant.load));
    }

pub loop-2-init : goal.loop-2-init
unfolding rounds
loop-2-init c =
    let all : c.loop.counter ≡ 2000 = omega (arith, c.loop-test.false, c.loop.auto.counter-end) in
    subst (λ n. IsLoad c.loop.load (turns c.args.number n (begun (first_id (word c.args.number 0))))) all c.loop.invariant.load

pub loop-2-preserved : goal.loop-2-preserved
unfolding rounds
loop-2-preserved c =
    let load = turns c.args.number 2000 (begun (first_id (word c.args.number 0))) in
    subst (λ n. IsLoad c.round.new.self (rounds n load)) (sym (add-one c.loop-2.counter)) (c.in_ok-round.ensures _ c.loop-2.invariant)

pub returns : goal.returns
unfolding load_of
returns c =
    let all : c.loop-2.counter ≡ 100 = omega (arith, c.loop-2-test.false, c.loop-2.auto.counter-end) in
    subst (λ n. IsLoad c.loop-2.load (rounds n (turns c.args.number 2000 (begun (first_id (word c.args.number 0)))))) all c.loop-2.invariant
