-- What was given to a sink where a call failed.
use Rattle.std.proofs.Common.{Result, Ok, Err, MatchResult, IsErr, OnErr}

-- a fact for each error, where the call failed
pub MatchResult-err : {T E : Type 0} (r : Result T E) (P : T → Type 0) (Q : E → Type 0) → IsErr r → ((e : E) → Q e) → MatchResult r P Q
MatchResult-err (Ok x) P Q err q = cc
MatchResult-err (Err e) P Q err q = q e

-- a fact, where the call failed
pub OnErr-any : {T E : Type 0} (r : Result T E) (X : Type 0) → X → OnErr r X
OnErr-any (Ok x) X fact = tt
OnErr-any (Err e) X fact = fact
