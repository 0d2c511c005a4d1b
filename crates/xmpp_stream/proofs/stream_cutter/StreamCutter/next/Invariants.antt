use Rattle.std.proofs.Common.{ℕ, List, length}
use Rattle.xmpp_stream.specs.Cut.{IsCut}
use Rattle.xmpp_stream.proofs.stream_cutter.StreamCutter.next.Given as goal

-- it stands for the same bytes and elements
abbrev pub invariant-steps : goal.invariant-steps
invariant-steps l = (fed : List ℕ) (elements : List (List ℕ)) → IsCut l.fn.self fed elements → IsCut l.self fed elements

abbrev pub decreases-steps : goal.decreases-steps
decreases-steps l = length l.self.kept
