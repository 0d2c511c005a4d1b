-- Lines that are given one after the other.
use Rattle.std.proofs.Common.{ℕ, List, [], ◌++◌, Some, None, sym, ◌∙◌, ap, append_assoc, append-nil}
use Rattle.std.specs.Prelude.{Option, Result, Ok, Err}
use Rattle.std.specs.Io.KnownBytes.{Appends}
use Rattle.bosh_ports.specs.Sink.{AppendsFront, GivesAll}
use Rattle.bosh_ports.proofs.PartsLemmas.{front_of_parts}

-- some bytes were given, and then others
pub appends_both : (old mid new : Option (List ℕ)) (xs ys : List ℕ) → Appends old mid xs → Appends mid new ys → Appends old new (xs ++ ys)
appends_both None mid new xs ys one two = tt
appends_both (Some bs) None new xs ys one two = absurd one
appends_both (Some bs) (Some cs) None xs ys one two = absurd two
appends_both (Some bs) (Some cs) (Some ds) xs ys one two = two ∙ ap (λ front. front ++ ys) one ∙ append_assoc bs xs ys

-- a front of some bytes is one of longer ones
pub front_longer : (old new : Option (List ℕ)) (xs ys : List ℕ) → AppendsFront old new xs → AppendsFront old new (xs ++ ys)
front_longer old new xs ys f = (f.0, f.1 ++ ys, ap (λ bytes. bytes ++ ys) f.2 ∙ append_assoc f.0 f.1 ys, f.3)

pub gives_both : {T E : Type 0} (result : Result T E) (old mid new : Option (List ℕ)) (xs ys : List ℕ) → Appends old mid xs → GivesAll result mid new ys → GivesAll result old new (xs ++ ys)
gives_both (Ok x) old mid new xs ys one two = appends_both old mid new xs ys one two
gives_both (Err e) old mid new xs ys one two = front_of_parts old mid new (xs ++ ys) xs ys [] one two (sym (append-nil (xs ++ ys)))
