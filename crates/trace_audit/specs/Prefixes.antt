-- What a trace that holds means.
use Rattle.std.specs.Prelude.{◌≡◌, List, ◌++◌}
use Rattle.trace_audit.specs.declared.line.TraceLine.{TraceLine}
use Rattle.trace_audit.specs.Run.{items_of}
use Rattle.trace_audit.specs.Told.{told}

-- the first list begins the second
abbrev pub Begins : {X : Type 0} → List X → List X → Type 0
Begins {X = X} xs ys = (rest : List X) × (ys ≡ xs ++ rest)

-- nothing was lost, doubled, altered or exchanged on the way, as far as it got: what went inward is a beginning of what the requests
-- ask for in their order, and what was got is a beginning of what was given
pub record KeepsBothPrefixes (lines : List TraceLine) : Type 0 where
  pub inward_is : Begins (told lines).passed (items_of (told lines).sent)
  pub got_is : Begins (told lines).got (told lines).gave
