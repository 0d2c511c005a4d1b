-- What is known of a line that was read.
use Rattle.std.specs.Prelude.{⊤, IsTrue, Option, None, Some}
use Rattle.bosh_types.specs.Rid.{IsRid}
use Rattle.session_attrs.specs.Serving.{can_serve}
use Rattle.world_laws.specs.Setup.{IsAllowed}
use Rattle.pair_text.specs.declared.line.PairLine.{PairLine}
use Rattle.pair_text.specs.declared.line.PairLine.TheVariants as lines

-- sessions may be opened for its host, its request id is one, and its event may come
abbrev pub IsSaid : PairLine → Type 0
IsSaid (lines.Host name greeting) = IsTrue (can_serve (record { name = name; greeting = greeting }))
IsSaid (lines.Client terms) = IsRid terms.first
IsSaid (lines.Event event) = IsAllowed event
IsSaid lines.End = ⊤

abbrev pub IsWellSaid : Option PairLine → Type 0
IsWellSaid None = ⊤
IsWellSaid (Some said) = IsSaid said
