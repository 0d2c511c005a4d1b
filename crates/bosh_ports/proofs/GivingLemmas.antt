-- Giving some bytes piece by piece.
use Rattle.std.proofs.Common.{◌≡◌, ℕ, ◌-◌, List, [], ◌++◌, Option, take, drop, length, refl, sym, ◌∙◌, ap, subst, append_assoc, append-nil}
use Rattle.std.proofs.lemmas.List.{take-append-drop, nil_from_length}
use Rattle.std.proofs.KnownBytes.{Appends-trans, Appends-nil, Appends-kept}
use Rattle.std.specs.Io.KnownBytes.{Appends, Keeps}
use Rattle.bosh_ports.specs.Sink.{AppendsFront}
use Rattle.bosh_ports.proofs.TakingLemmas.{whole_range}

-- all of the bytes but the rest have been given
pub record HasGiven (old new : Option (List ℕ)) (bytes rest : List ℕ) : Type 0 where
  pub front : List ℕ
  pub parts : bytes ≡ front ++ rest
  pub gave : Appends old new front

pub nothing_yet : (old : Option (List ℕ)) (bytes : List ℕ) → HasGiven old old bytes bytes
nothing_yet old bytes = record { front = []; parts = refl; gave = Appends-nil old }

pub one_more : (old mid new : Option (List ℕ)) (bytes rest : List ℕ) (n : ℕ) → HasGiven old mid bytes rest → Appends mid new (take n rest) → HasGiven old new bytes (take (length rest - n) (drop n rest))
one_more old mid new bytes rest n has more = record {
  front = has.front ++ take n rest;
  parts = has.parts ∙ ap (λ r. has.front ++ r) (sym (take-append-drop n rest) ∙ ap (λ r. take n rest ++ r) (sym (whole_range rest n))) ∙ sym (append_assoc has.front (take n rest) (take (length rest - n) (drop n rest)));
  gave = Appends-trans old mid new has.front (take n rest) has.gave more;
}

pub all_given : (old new : Option (List ℕ)) (bytes rest : List ℕ) → HasGiven old new bytes rest → length rest ≡ 0 → Appends old new bytes
all_given old new bytes rest has none =
    let same : bytes ≡ has.front = has.parts ∙ ap (λ r. has.front ++ r) (nil_from_length rest none) ∙ append-nil has.front in
    subst (λ b. Appends old new b) (sym same) has.gave

-- a failed give gives nothing
pub front_given : (old mid new : Option (List ℕ)) (bytes rest : List ℕ) → HasGiven old mid bytes rest → Keeps mid new → AppendsFront old new bytes
front_given old mid new bytes rest has keeps = (has.front, rest, has.parts, Appends-kept old mid new has.front has.gave keeps)
