-- How what a crash may leave goes on from call to call.
use Rattle.std.proofs.Common.{inl, inr, ⊎_elim, ℕ, List, arith}
use Rattle.journal_store.specs.Crash.{EachCrash}

module _ {D : Type 0} (time : D → ℕ) (left : D → ℕ → List ℕ → Type 0) where
  -- what has P has Q
  pub weaker : (old new : D) (P Q : List ℕ → Type 0) → EachCrash time left old new P → ((image : List ℕ) → P image → Q image) → EachCrash time left old new Q
  weaker old new P Q crash so = record {
    later = crash.later;
    each = λ image is. so image (crash.each image is);
    before = λ since image le is. ⊎_elim (λ was. inl was) (λ p. inr (so image p)) (crash.before since image le is);
  }

  -- two calls, one after the other
  pub then_crash : (old mid new : D) (P : List ℕ → Type 0) → EachCrash time left old mid P → EachCrash time left mid new P → EachCrash time left old new P
  then_crash old mid new P first second = record {
    later = omega (arith, first.later, second.later);
    each = λ image is. ⊎_elim (λ was. first.each image was) (λ p. p) (second.before (time old) image first.later is);
    before = λ since image le is. ⊎_elim (λ was. first.before since image le was) (λ p. inr p) (second.before since image (omega (arith, le, first.later)) is);
  }
