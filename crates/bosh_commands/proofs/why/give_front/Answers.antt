use Rattle.std.proofs.Common.{ℕ, List, [], sym, append-nil}
use Rattle.std.specs.Prelude.{Option, Result, Ok, Err}
use Rattle.bosh_ports.specs.Sink.{AppendsFront, GivesAll}
use Rattle.bosh_commands.proofs.why.give_front.Goals as goal

-- a text that was given, or a front of it
gave_front : {T E : Type 0} (result : Result T E) (old new : Option (List ℕ)) (text : List ℕ) → GivesAll result old new text → AppendsFront old new text
gave_front (Ok x) old new text gives = (text, [], sym (append-nil text), gives)
gave_front (Err e) old new text gives = gives

pub returns : goal.returns
returns g c = gave_front c.give_all.result _ _ _ c.give_all.ensures.given
