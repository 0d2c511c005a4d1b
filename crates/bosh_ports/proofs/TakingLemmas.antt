-- What taking bytes off a list leaves.
use Rattle.std.proofs.Common.{◌≡◌, ℕ, ◌+◌, ◌-◌, List, ◌++◌, Option, take, drop, length, length-append, sym, ◌∙◌, ap, subst, arith}
use Rattle.std.proofs.lemmas.Grind.{common_steps}
use Rattle.std.proofs.lemmas.List.{take-append-drop, drop-drop, take-append-le}
use Rattle.std.specs.Io.KnownBytes.{Consumes}
use Rattle.bosh_ports.specs.Source.{Takes}
use Rattle.bosh_ports.specs.declared.source.Got.{Got}
use Rattle.bosh_ports.specs.declared.source.Got.TheVariants.{Bytes, End, Failed}

-- a range to the end is what is left
pub whole_range : (xs : List ℕ) (n : ℕ) → take (length xs - n) (drop n xs) ≡ drop n xs
whole_range xs n = grind (arith, common_steps)

-- n more are taken where i were taken before
drop-take_more : (xs : List ℕ) (i n : ℕ) → drop i xs ≡ take n (drop i xs) ++ drop (i + n) xs
drop-take_more xs i n = sym (take-append-drop n (drop i xs)) ∙ ap (λ rest. take n (drop i xs) ++ rest) (drop-drop n i xs)

-- n bytes were copied from where i had been taken before
pub copied : (xs ys into : List ℕ) (i n : ℕ) → ys ≡ xs → take n into ≡ take n (take (length ys - i) (drop i ys)) → drop i xs ≡ take n into ++ drop (i + n) xs
copied xs ys into i n same is =
    let front : take n (drop i xs) ≡ take n into = sym (is ∙ ap (take n) (whole_range ys i ∙ ap (drop i) same)) in
    drop-take_more xs i n ∙ ap (λ f. f ++ drop (i + n) xs) front

-- the room was the front of a longer one
pub takes_front : (old new : Option (List ℕ)) (room others : List ℕ) (got : Got) → Takes old new room got → Takes old new (room ++ others) got
takes_front old new room others (Bytes n) (some, fits, consumes) = (
  some,
  rw (length-append room others) (omega (arith, fits)),
  subst (Consumes old new) (sym (take-append-le n room others fits)) consumes,
)
takes_front old new room others End taken = taken
takes_front old new room others Failed taken = taken
