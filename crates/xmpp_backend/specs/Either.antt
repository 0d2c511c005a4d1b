-- What a back end of one of two kinds tells and counts.
use Rattle.xmpp_backend.specs.declared.either.Either.{Either}
use Rattle.xmpp_backend.specs.declared.either.Either.TheVariants.{Left, Right}

-- what is so of the one kind or of the other
abbrev pub of_either : {A B X : Type 0} → (A → X) → (B → X) → Either A B → X
of_either left right (Left end) = left end
of_either left right (Right end) = right end
