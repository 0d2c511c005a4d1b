use Rattle.std.proofs.Common.{None, ap, refl}
use Rattle.session_pump.specs.Hosts.{facts_of}
use Rattle.session_pump.specs.Sides.{LineFacts}
use Rattle.session_pump.proofs.PassingLemmas.{added_so, still_so}
use Rattle.session_pump.proofs.passing.meet_kept.Goals as goal

pub returns-in_err-add-clause-moves : goal.returns-in_err-add-clause-moves
returns-in_err-add-clause-moves g c moment known = still_so known _ _ _ c.in_err-add.ensures.err

pub returns-clause-moves : goal.returns-clause-moves
returns-clause-moves g c moment known =
    added_so (facts_of g.E.Backend.told g.E.Backend.counts) _ known _ _ _ _ _ _ _ c.in-Some.is c.name_in.ensures c.requires c.stream_of-stream.ensures
    c.in_ok-add.ensures.small c.place_of-host.ensures.first c.place_of-host.ensures.none refl (ap {A = LineFacts} (λ l. record l { kept = None }) c.in_ok-add.ensures.added)

pub returns-clause-met : goal.returns-clause-met
returns-clause-met g c = (_, ap {A = LineFacts} (λ l. record l { kept = None }) c.in_ok-add.ensures.added)
