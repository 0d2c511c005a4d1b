use Rattle.std.proofs.Common.{◌∙◌, ap, subst}
use Rattle.std.specs.Io.KnownBytes.{Appends}
use Rattle.bosh_http.proofs.GatheringLemmas.{gathers_none}
use Rattle.bosh_http.proofs.gathering.gather.Goals as goal

pub returns-in-Err-try_extend_from_slice-clause-gathers : goal.returns-in-Err-try_extend_from_slice-clause-gathers
returns-in-Err-try_extend_from_slice-clause-gathers g c =
    let gave = subst (Appends (g.L.Link.given c.args.link.now) (g.L.Link.given c.send_all.new.link)) (c.as_slice.ensures.value ∙ ap (λ r. r.items) c.in-Err.ensures.err) c.in_ok-send_all-in-Err.ensures.given in
    gathers_none c.send_all-in-Err-try_extend_from_slice.result _ _ _ _ _ _ gave c.send_all-in-Err-try_extend_from_slice.ensures.given
    (ap (λ r. r.items) c.in-Err-try_extend_from_slice.ensures.err ∙ c.clear.ensures)
