use Rattle.std.proofs.Common.{◌≡◌, ◌++◌, map, take}
use Rattle.bosh_types.specs.declared.inward.Inward.TheVariants.{Item}
use Rattle.session_core.proofs.processing.pass_stanza.Given as goal

-- it went inward for so many of the streams
abbrev pub invariant-loop-place : goal.invariant-loop-place
invariant-loop-place l = l.inbox ≡ l.fn.inbox ++ map (λ stream. Item stream l.text) (take l.place l.targets)
