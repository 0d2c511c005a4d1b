use Rattle.std.proofs.Common.{[], ℕ, List, refl, sym, subst}
use Rattle.xmpp_stream.specs.Cut.{Holds, IsCut}
use Rattle.xmpp_stream.proofs.CutLemmas.{begins, first_state}
use Rattle.xmpp_stream.proofs.stream_cutter.StreamCutter.new.Goals as goal

pub returns : goal.returns
unfolding IsCut
returns c = subst (λ (k : List ℕ). Holds k c.new-scan.result first_state [] []) (sym c.new-kept.ensures) (begins c.new-scan.result first_state c.new-scan.ensures refl refl refl refl)
